-- The walk over the records is their order and each record's test with its parent looked up. Assumes nothing.
use mathlib.Core.Path.{◌≡◌, refl, sym, ◌∙◌}
use mathlib.Core.Bool.{Bool, true, false, ◌&&◌}
use mathlib.Core.List.{List, [], ◌∷◌}
use Prim.Native.Nat.{ℕ, suc, ◌+◌, ◌≤◌, ◌<◌}
use native.Mathlib.Omega.{arith}
use native.Mathlib.Numerals.{add-one}
use borrow.Author.Tests.{le-leb}
use lib.Dec.{T, leb, ltb, leb→le, ltb→lt, eqb→eq}
use lib.ListN.{get_or}
use Rattle.numbers.specs.Limits.{desks}
use Rattle.numbers.specs.Every.{all}
use Rattle.numbers.proofs.Tests.{both, left, right, of_true, is_true}
use Rattle.contexts.specs.Keys.{desk_of, len_of}
use Rattle.contexts.specs.Sitting.{first, second}
use Rattle.contexts.proofs.Digits.{Ends}
use Rattle.records.specs.Records.{key, keys, rises}
use Rattle.records.proofs.Rising.{rises_first, rises_rest}
use Rattle.records.proofs.Finding.{lookup_tail}
use Rattle.store.specs.Layout.{is_open, symbols_at, depth_at}
use Rattle.store.specs.Sound.{each_sample, parent_ok, table_ok}
use Rattle.store.specs.Walk.{oldest_ok, ends_ok, key_fits, own_ok, step_ok, marks_after, walked, start}
use Rattle.store.proofs.Marks.{Rest, Kept, kept_start, kept_next, mark_parent}

-- a record's own test, and its parent looked up
unfoldable pub fit_ok : List ℕ → List (List ℕ) → List ℕ → Bool
fit_ok s rs r = own_ok s r && each_sample (parent_ok rs r)

-- what the key's test tells
pub record KeyFitting (s : List ℕ) (k : ℕ) : Type 0 where
  pub desk : desk_of k < desks
  pub opened : T (is_open s (desk_of k))
  pub short : len_of k ≤ depth_at s (desk_of k)
  pub oldest : T (oldest_ok (symbols_at s (desk_of k)) k)
  pub ends : Ends k

pub key_fitting : (s : List ℕ) (k : ℕ) → T (key_fits s k) → KeyFitting s k
unfolding key_fits ends_ok
key_fitting s k t =
    let one = right (ltb (desk_of k) desks) _ t in
    let two = right (is_open s (desk_of k)) _ one in
    let three = right (leb (len_of k) (depth_at s (desk_of k))) _ two in
    record {
      desk = ltb→lt (desk_of k) desks (left (ltb (desk_of k) desks) _ t);
      opened = left (is_open s (desk_of k)) _ one;
      short = leb→le (len_of k) (depth_at s (desk_of k)) (left (leb (len_of k) (depth_at s (desk_of k))) _ two);
      oldest = left (oldest_ok (symbols_at s (desk_of k)) k) _ three;
      ends = eqb→eq _ (len_of k) (right (oldest_ok (symbols_at s (desk_of k)) k) _ three);
    }

pub own_key : (s r : List ℕ) → T (own_ok s r) → KeyFitting s (key r)
unfolding own_ok
own_key s r t = key_fitting s (key r) (left (key_fits s (key r)) (table_ok s r) t)

-- a record's turn that passes has a desk
pub step_desk : (s : List ℕ) (lo p q : ℕ) (r : List ℕ) → T (step_ok s lo p q r) → desk_of (key r) < desks
unfolding step_ok
step_desk s lo p q r t = (own_key s r (left (own_ok s r) _ (right (leb lo (key r)) _ t))).desk

-- records that rise: the walk is their tests
agree : (s : List ℕ) (rs : List (List ℕ)) (lo : ℕ) (p q : List ℕ) (rest : List (List ℕ)) → T (rises lo (keys rest)) → Rest rs lo rest
    → Kept rs first lo p → Kept rs second lo q → walked s lo p q rest ≡ all (fit_ok s rs) rest
unfolding walked all step_ok fit_ok
agree s rs lo p q [] up there kp kq = refl
agree s rs lo p q (r ∷ rest) up there kp kq = go (own_ok s r) refl
    (λ ends. agree s rs (key r + 1) (marks_after first r p) (marks_after second r q) rest (rw (add-one (key r)) (rises_rest lo (key r) (keys rest) up))
    (λ j h. there j (omega (arith, rises_first lo (key r) (keys rest) up)) ∙ lookup_tail j r rest (omega arith))
    (kept_next rs first lo p r rest up there kp ends) (kept_next rs second lo q r rest up there kq ends))
  where
    go : (t : Bool) → own_ok s r ≡ t
        → (Ends (key r) → walked s (key r + 1) (marks_after first r p) (marks_after second r q) rest ≡ all (fit_ok s rs) rest)
        → walked s lo p q (r ∷ rest) ≡ all (fit_ok s rs) (r ∷ rest)
    go false e ih = rw (le-leb lo (key r) (rises_first lo (key r) (keys rest) up), e)
    go true e ih =
        let fits = own_key s r (of_true (own_ok s r) e) in
        let one = mark_parent rs first lo p r rest up there kp fits.ends fits.desk in
        let two = mark_parent rs second lo q r rest up there kq fits.ends fits.desk in
        rw (le-leb lo (key r) (rises_first lo (key r) (keys rest) up), e, one, two, ih fits.ends)

-- a walk that passes rises
walk_rises : (s : List ℕ) (lo : ℕ) (p q : List ℕ) (rest : List (List ℕ)) → T (walked s lo p q rest) → T (rises lo (keys rest))
unfolding walked step_ok rises
walk_rises s lo p q [] t = tt
walk_rises s lo p q (r ∷ rest) t =
    let here = left (step_ok s lo (get_or p (len_of (key r)) 0) (get_or q (len_of (key r)) 0) r) _ t in
    let tail = walk_rises s (key r + 1) (marks_after first r p) (marks_after second r q) rest (right (step_ok s lo (get_or p (len_of (key r)) 0) (get_or q (len_of (key r)) 0) r) _ t) in
    both (leb lo (key r)) (rises (suc (key r)) (keys rest)) (left (leb lo (key r)) _ here) (rw (add-one (key r)) at tail)

-- THEOREM. The walk is the order of the records and each record's test with its parent looked up
pub walk_is : (s : List ℕ) (rs : List (List ℕ)) → walked s 0 start start rs ≡ rises 0 (keys rs) && all (fit_ok s rs) rs
walk_is s rs = go (rises 0 (keys rs)) refl
  where
    none : (t : Bool) → walked s 0 start start rs ≡ t → rises 0 (keys rs) ≡ false → t ≡ false
    none true e f = sym (is_true (rises 0 (keys rs)) (walk_rises s 0 start start rs (of_true (walked s 0 start start rs) e))) ∙ f
    none false e f = refl

    go : (t : Bool) → rises 0 (keys rs) ≡ t → walked s 0 start start rs ≡ t && all (fit_ok s rs) rs
    go true e = agree s rs 0 start start rs (of_true (rises 0 (keys rs)) e) (λ k h. refl) (kept_start rs first) (kept_start rs second)
    go false e = none (walked s 0 start start rs) refl e
