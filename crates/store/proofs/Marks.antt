-- The marks of a sample: in rising keys, the parent of a record is the last record that is one shorter. Assumes nothing.
use mathlib.Core.Path.{◌≡◌, refl, sym, ap, ◌∙◌}
use mathlib.Core.Bool.{Bool, true, false, cond, ◌||◌, or-true}
use mathlib.Core.List.{List, [], ◌∷◌}
use Prim.Native.Nat.{ℕ, zero, suc, ◌+◌, ◌≤◌, ◌<◌}
use native.Mathlib.Nat.{le_refl}
use native.Mathlib.Omega.{arith}
use borrow.Author.Tests.{eq-eqb, ne_eqb, lt-ltb, ltb-true, ltb-false, eqb-true, eqb-false}
use lib.Dec.{T, ltb, eqb}
use lib.ListN.{length, get_or, length-set}
use lib.Seq.{get_or-set_same, get_or-set_other}
use Rattle.numbers.proofs.Lists.{zeros_at}
use Rattle.contexts.specs.Context.{parent_of}
use Rattle.contexts.specs.Keys.{key_of, desk_of, context_of, len_of, eights}
use Rattle.contexts.specs.Sitting.{Sample}
use Rattle.contexts.proofs.Digits.{ends_short, Ends, context_of_length, key_back}
use Rattle.records.specs.Records.{key, keys, rises, lookup, blank}
use Rattle.records.proofs.Rising.{rises_first, rises_rest, rises_cons}
use Rattle.records.proofs.Finding.{held_none, lookup_absent, lookup_head}
use Rattle.records.proofs.Counting.{total_blank}
use Rattle.store.specs.Layout.{total_of}
use Rattle.store.specs.Sound.{parent_key, parent_ok}
use Rattle.store.specs.Walk.{up_mark, seen_mark, mark_ok, marks_after, start}
use Rattle.store.proofs.Parents.{Above, above, apart, root_mark}

-- the records from lo up are those of `rest`
abbrev pub Rest : List (List ℕ) → ℕ → List (List ℕ) → Type 0
Rest rs lo rest = (k : ℕ) → lo ≤ k → lookup k rs ≡ lookup k rest

-- what the marks say of the records below lo: each is of a record that has counts, and the last of its length is there
pub record Kept (rs : List (List ℕ)) (i : Sample) (lo : ℕ) (p : List ℕ) : Type 0 where
  pub long : length p ≡ 9
  pub none : get_or p 0 0 ≡ 0
  pub counted : (l k : ℕ) → get_or p (l + 1) 0 ≡ k + 1 → 0 < total_of i (lookup k rs)
  pub last : (k : ℕ) → k < lo → Ends k → lo + len_of k ≤ k + eights (len_of k) → 0 < total_of i (lookup k rs) → get_or p (len_of k + 1) 0 ≡ k + 1

pub kept_start : (rs : List (List ℕ)) (i : Sample) → Kept rs i 0 start
kept_start rs i = record {
  long = refl;
  none = refl;
  counted = λ l k e. absurd (omega (arith, zeros_at 9 (l + 1)));
  last = λ k h. absurd (omega arith);
}

module _ (rs : List (List ℕ)) (i : Sample) (lo : ℕ) (p : List ℕ) (r : List ℕ) (rest : List (List ℕ))
    (up : T (rises lo (keys (r ∷ rest)))) (there : Rest rs lo (r ∷ rest)) (kept : Kept rs i lo p) (ends : Ends (key r)) where
  -- a key that has counts and stands before the record is below lo
  earlier : (k : ℕ) → k < key r → 0 < total_of i (lookup k rs) → k < lo
  earlier k h seen = go (ltb k lo) refl
    where
      go : (t : Bool) → ltb k lo ≡ t → k < lo
      go true e = ltb-true k lo e
      go false e =
          let out : lookup k rs ≡ blank k = there k (ltb-false k lo e) ∙ lookup_absent k (r ∷ rest) (held_none k (key r) (r ∷ rest) (rises_cons (key r) (key r) (keys rest) (le_refl (key r)) (rises_rest lo (key r) (keys rest) up)) h) in
          let zero-sum : total_of i (lookup k rs) ≡ 0 = ap (total_of i) out ∙ total_blank i k in
          absurd (omega arith)

  -- the record itself
  itself : lookup (key r) rs ≡ r
  itself = there (key r) (rises_first lo (key r) (keys rest) up) ∙ lookup_head r rest

  -- the mark at the record's length is its parent's exactly where the parent has counts
  mark_test : 1 ≤ len_of (key r) → eqb (get_or p (len_of (key r)) 0) (up_mark (key r)) ≡ ltb 0 (total_of i (lookup (parent_key (key r)) rs))
  mark_test h = go (ltb 0 (total_of i (lookup (parent_key (key r)) rs))) refl
    where
      k : ℕ
      k = key r

      a : Above k
      a = above k h (ends_short k ends) ends

      go : (t : Bool) → ltb 0 (total_of i (lookup (parent_key k) rs)) ≡ t → eqb (get_or p (len_of k) 0) (up_mark k) ≡ t
      go true e =
          let seen = ltb-true 0 (total_of i (lookup (parent_key k) rs)) e in
          let low = rises_first lo (key r) (keys rest) up in
          let at : get_or p (len_of (parent_key k) + 1) 0 ≡ parent_key k + 1 = kept.last (parent_key k) (earlier (parent_key k) a.before seen) a.ends (omega (arith, a.near)) seen in
          eq-eqb (get_or p (len_of k) 0) (up_mark k) (ap (λ (l : ℕ). get_or p l 0) (sym a.shorter) ∙ at ∙ sym a.mark)
      go false e = ne_eqb (get_or p (len_of k) 0) (up_mark k)
          (λ q. let seen = kept.counted (len_of (parent_key k)) (parent_key k) (ap (λ (l : ℕ). get_or p l 0) a.shorter ∙ q ∙ a.mark) in
          let no = ltb-false 0 (total_of i (lookup (parent_key k) rs)) e in
          omega arith)

  -- so the mark's test is the parent's
  pub mark_parent : desk_of (key r) < 8 → mark_ok (total_of i r) (get_or p (len_of (key r)) 0) (up_mark (key r)) ≡ parent_ok rs r i
  unfolding mark_ok parent_ok
  mark_parent desk = go (eqb (len_of (key r)) 0) refl
    where
      k : ℕ
      k = key r

      own : parent_of (context_of k) ≡ context_of k → parent_key k ≡ k
      own e = ap (key_of (desk_of k)) e ∙ key_back k (ends_short k ends) ends

      nil : (s : List ℕ) → length s ≡ 0 → parent_of s ≡ s
      nil [] e = refl
      nil (x ∷ s) e = absurd (omega arith)

      some_or_none : (x : ℕ) → (eqb x 0 || ltb 0 x) ≡ true
      some_or_none zero = refl
      some_or_none (suc x) = rw (lt-ltb 0 (suc x) (omega arith)) (or-true (eqb (suc x) 0))

      go : (t : Bool) → eqb (len_of k) 0 ≡ t
          → (eqb (total_of i r) 0 || eqb (get_or p (len_of k) 0) (up_mark k)) ≡ (eqb (total_of i r) 0 || ltb 0 (total_of i (lookup (parent_key k) rs)))
      go true e =
          let none : len_of k ≡ 0 = eqb-true (len_of k) 0 e in
          let hp : eqb (get_or p (len_of k) 0) (up_mark k) ≡ true = eq-eqb (get_or p (len_of k) 0) (up_mark k) (ap (λ (l : ℕ). get_or p l 0) none ∙ kept.none ∙ sym (root_mark k desk none)) in
          let self : lookup (parent_key k) rs ≡ r = ap (λ (m : ℕ). lookup m rs) (own (nil (context_of k) (context_of_length k (ends_short k ends) ∙ none))) ∙ itself in
          rw (hp, self) (or-true (eqb (total_of i r) 0) ∙ sym (some_or_none (total_of i r)))
      go false e =
          let some : 1 ≤ len_of k = (let d = eqb-false (len_of k) 0 e in omega arith) in
          rw (mark_test some)

  -- the marks after the record
  placed : get_or (marks_after i r p) (len_of (key r) + 1) 0 ≡ seen_mark (key r) (total_of i r)
  placed = get_or-set_same p (len_of (key r) + 1) (seen_mark (key r) (total_of i r)) 0 (omega (arith, kept.long))

  counted_next : (l k : ℕ) → get_or (marks_after i r p) (l + 1) 0 ≡ k + 1 → 0 < total_of i (lookup k rs)
  unfolding seen_mark
  counted_next l k e = go (eqb l (len_of (key r))) refl
    where
      mine : (t : Bool) → ltb 0 (total_of i r) ≡ t → cond t (key r + 1) 0 ≡ k + 1 → 0 < total_of i (lookup k rs)
      mine true g q =
          let same : k ≡ key r = omega arith in
          rw (same, itself) (ltb-true 0 (total_of i r) g)
      mine false g q = absurd (omega arith)

      go : (t : Bool) → eqb l (len_of (key r)) ≡ t → 0 < total_of i (lookup k rs)
      go true g =
          let same : l ≡ len_of (key r) = eqb-true l (len_of (key r)) g in
          mine (ltb 0 (total_of i r)) refl (sym placed ∙ ap (λ (l : ℕ). get_or (marks_after i r p) (l + 1) 0) (sym same) ∙ e)
      go false g =
          let other = eqb-false l (len_of (key r)) g in
          kept.counted l k (sym (get_or-set_other p (len_of (key r) + 1) (l + 1) (seen_mark (key r) (total_of i r)) 0 (λ q. other (omega arith))) ∙ e)

  last_next : (k : ℕ) → k < key r + 1 → Ends k → key r + 1 + len_of k ≤ k + eights (len_of k) → 0 < total_of i (lookup k rs) → get_or (marks_after i r p) (len_of k + 1) 0 ≡ k + 1
  unfolding seen_mark
  last_next k h e n seen = go (eqb k (key r)) refl (eqb (len_of k) (len_of (key r))) refl
    where
      go : (t : Bool) → eqb k (key r) ≡ t → (u : Bool) → eqb (len_of k) (len_of (key r)) ≡ u → get_or (marks_after i r p) (len_of k + 1) 0 ≡ k + 1
      go true g u v =
          let same : k ≡ key r = eqb-true k (key r) g in
          let some : 0 < total_of i r = rw (same, itself) at seen in
          rw same (placed ∙ rw (lt-ltb 0 (total_of i r) some))
      go false g true v =
          let other = eqb-false k (key r) g in
          let same : len_of k ≡ len_of (key r) = eqb-true (len_of k) (len_of (key r)) v in
          let less : k < key r = omega arith in
          let near : key r + len_of (key r) < k + eights (len_of (key r)) = rw (← same) (omega arith) in
          absurd (apart k (key r) (len_of (key r)) (omega arith) (rw same at e) ends less near)
      go false g false v =
          let other = eqb-false k (key r) g in
          let apart-len = eqb-false (len_of k) (len_of (key r)) v in
          let low = rises_first lo (key r) (keys rest) up in
          let less : k < key r = omega arith in
          get_or-set_other p (len_of (key r) + 1) (len_of k + 1) (seen_mark (key r) (total_of i r)) 0 (λ q. apart-len (omega arith))
          ∙ kept.last k (earlier k less seen) e (omega arith) seen

  pub kept_next : Kept rs i (key r + 1) (marks_after i r p)
  kept_next = record {
    long = length-set p (len_of (key r) + 1) (seen_mark (key r) (total_of i r)) ∙ kept.long;
    none = get_or-set_other p (len_of (key r) + 1) 0 (seen_mark (key r) (total_of i r)) 0 (λ e. omega arith) ∙ kept.none;
    counted = counted_next;
    last = last_next;
  }
