-- What refusal 10 speaks of: a sitting holds after a feed the contexts that it held, and those that were missing, where it is counted. Assumes nothing.
use mathlib.Core.Path.{◌≡◌, refl, sym, ap, ap₂, ◌∙◌, subst}
use mathlib.Core.Bool.{Bool, true, false, ◌&&◌, ◌||◌}
use mathlib.Core.List.{List, []}
use Prim.Native.Nat.{ℕ, ◌+◌, ◌<◌}
use native.Mathlib.Omega.{arith}
use borrow.Author.Tests.{lt-ltb, eq-eqb}
use lib.Dec.{T, eqb, ltb, eqb→eq}
use lib.ListN.{length, get_or}
use Rattle.numbers.specs.Sum.{one}
use Rattle.numbers.proofs.Tests.{left, right}
use Rattle.numbers.proofs.Orders.{eqb_sym}
use Rattle.numbers.proofs.Sums.{sum_cong, sum_pick}
use Rattle.contexts.specs.Context.{begins}
use Rattle.contexts.specs.Keys.{key_of, desk_of}
use Rattle.contexts.specs.Sitting.{Sample, first, second, same_sample, Sitting, sat, total_in, is_held, contexts_held}
use Rattle.contexts.proofs.KeyOrder.{desk_of_key}
use Rattle.contexts.proofs.Totalling.{total_within}
use Rattle.records.specs.Records.{key}
use Rattle.records.specs.Held.{held, keep, of_desk}
use Rattle.records.proofs.Keeping.{rises_keep, held_keep}
use Rattle.records.proofs.Finding.{place_held}
use Rattle.store.specs.Layout.{symbols_at, depth_at, weight_at, size_at, records_in}
use Rattle.store.specs.Sound.{soundb, held_by}
use Rattle.store.specs.Plain.{Open, ContextAt}
use Rattle.store.specs.Meaning.{opening_at, progress_at, sitting_at}
use Rattle.store.proofs.Passing.{passed, desk_passed}
use Rattle.store.proofs.Totalling.{total_keys}
use Rattle.rules.specs.Feed as rule
use Rattle.changes.specs.FedStore.{recent_at, is_counted, missing_if, records_fed}
use Rattle.changes.proofs.Recent.{recent_within, within}
use Rattle.changes.proofs.Before.{rising, held_is}
use Rattle.changes.proofs.Whether.{rising_if, held_if, desk_length_if}
use Rattle.changes.proofs.Counted.{regroup}
use Rattle.changes.proofs.Owning.{owned_fed, owned_desk}

-- one more in one of two samples
one_in : (i : Sample) (x y : ℕ) (b : Bool)
    → ltb 0 (x + one (same_sample first i && b) + (y + one (same_sample second i && b))) ≡ (b || ltb 0 (x + y))
one_in first x y true = lt-ltb 0 (x + 1 + (y + 0)) (omega arith)
one_in first x y false = ap (ltb 0) (let e : x + 0 + (y + 0) ≡ x + y = omega arith in e)
one_in second x y true = lt-ltb 0 (x + 0 + (y + 1)) (omega arith)
one_in second x y false = ap (ltb 0) (let e : x + 0 + (y + 0) ≡ x + y = omega arith in e)

module _ (s : List ℕ) (h : soundb s ≡ true) (d : ℕ) (o : Open s d) (i : Sample) (a : ℕ) (l : a < symbols_at s d) where
  -- the desk's sitting after the feed
  abbrev after : Sitting
  after = sat (symbols_at s d) (depth_at s d) (weight_at s d) (rule.after_feed (opening_at s d) i a (progress_at s d))

  total_after : (j : Sample) (c : List ℕ) → total_in after j c ≡ total_in (sitting_at s d) j c + one (same_sample j i && (is_counted s d i && begins c (recent_at s d i)))
  unfolding rule.after_feed
  total_after j c =
      sum_cong (symbols_at s d) {g = λ b. (progress_at s d).count j c b + one ((same_sample j i && (is_counted s d i && begins c (recent_at s d i))) && eqb b a)}
      (λ b m. rw (regroup (same_sample j i) (is_counted s d i) (begins c (recent_at s d i)) (eqb a b), eqb_sym a b))
      ∙ sum_pick (symbols_at s d) a ((progress_at s d).count j c) (same_sample j i && (is_counted s d i && begins c (recent_at s d i))) l

  -- a context is held then where the place is counted and it begins the recent symbols, or was held
  held_after : (c : List ℕ) → is_held after c ≡ ((is_counted s d i && begins c (recent_at s d i)) || is_held (sitting_at s d) c)
  held_after c = ap₂ (λ (m n : ℕ). ltb 0 (m + n)) (total_after first c) (total_after second c)
      ∙ one_in i (total_in (sitting_at s d) first c) (total_in (sitting_at s d) second c) (is_counted s d i && begins c (recent_at s d i))

  own_key : (c : List ℕ) → ContextAt s d c → of_desk d (key_of d c) ≡ true
  own_key c x = eq-eqb (desk_of (key_of d c)) d (desk_of_key d c (within s h d o c x))

  held_records_after : (c : List ℕ) → ContextAt s d c → is_held after c ≡ held (key_of d c) (keep (of_desk d) (records_fed s d i a))
  held_records_after c x =
      held_after c
      ∙ rw (
        held_is s h d o c x,
        held_keep (of_desk d) (key_of d c) (records_fed s d i a),
        own_key c x,
        held_if d i a (recent_at s d i) (recent_within s h d o i) d c (within s h d o c x) (is_counted s d i) (records_in s),
        eq-eqb d d refl,
      )

  -- each of the desk's records is that of one of its contexts
  own_context : (j : ℕ) → j < length (keep (of_desk d) (records_fed s d i a)) → (c : List ℕ) × ContextAt s d c × (key (get_or (keep (of_desk d) (records_fed s d i a)) j []) ≡ key_of d c)
  own_context j m =
      let k = key (get_or (keep (of_desk d) (records_fed s d i a)) j []) in
      let t : T (of_desk d k && held k (records_fed s d i a)) = rw (held_keep (of_desk d) k (records_fed s d i a)) at (place_held k j (keep (of_desk d) (records_fed s d i a)) m refl) in
      let w = owned_fed s h d o i a k (right (of_desk d k) (held k (records_fed s d i a)) t) in
      let e : w.desk ≡ d = sym (owned_desk s h k w) ∙ eqb→eq (desk_of k) d (left (of_desk d k) (held k (records_fed s d i a)) t) in
      (w.context, subst (λ (e : ℕ). ContextAt s e w.context) e w.is_context_holds, w.under_key ∙ ap (λ (e : ℕ). key_of e w.context) e)

  -- THEOREM. A sitting holds after a feed as many contexts as its desk had records, and as many more as it adds
  pub held_fed_contexts : contexts_held after ≡ held_by d (records_in s) + missing_if (is_counted s d i) d (recent_at s d i) (records_in s)
  held_fed_contexts =
      let g = desk_passed s (passed s h) d o in
      let up = rises_keep (of_desk d) 0 (records_fed s d i a) (rising_if d i a (recent_at s d i) (is_counted s d i) (records_in s) (rising s h)) in
      total_within (symbols_at s d) (depth_at s d) (λ c x. ap one (held_records_after c x))
      ∙ total_keys (symbols_at s d) (depth_at s d) d g.most g.depth 0 (keep (of_desk d) (records_fed s d i a)) up own_context
      ∙ desk_length_if d i a (recent_at s d i) (recent_within s h d o i) (is_counted s d i) (records_in s) (rising s h)
