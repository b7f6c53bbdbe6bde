-- The meaning of a sound store is within document 01's limits. Assumes nothing.
use mathlib.Core.Path.{◌≡◌, refl, sym, ◌∙◌, subst}
use mathlib.Core.Bool.{Bool, true, false, cond, ◌&&◌}
use mathlib.Core.List.{List, [], ◌∷◌, ◌++◌}
use Prim.Native.Nat.{ℕ, zero, suc, min, ◌≤◌, ◌<◌}
use native.Mathlib.Omega.{arith}
use borrow.Author.Tests.{le-ltb, lt-ltb}
use lib.Dec.{T, ltb, ltb→lt, lt→ltb}
use lib.ListN.{length, take, length-take}
use Rattle.numbers.specs.Limits.{desks}
use Rattle.numbers.specs.Sum.{sum}
use Rattle.numbers.specs.Every.{all}
use Rattle.numbers.proofs.Tests.{T?, both, left, right, is_true, is_false}
use Rattle.numbers.proofs.Sums.{sum_cong}
use Rattle.numbers.proofs.Every.{all_take}
use Rattle.contexts.specs.Context.{is_context}
use Rattle.contexts.specs.Sitting.{Sample, Progress}
use Rattle.contexts.proofs.Strings.{context_cons}
use Rattle.contexts.proofs.Oldest.{context_parent}
use Rattle.replay.specs.Room.{Opening, closed, opened, reserved}
use Rattle.store.specs.Layout.{is_open, symbols_at, depth_at, size_at, slots_at}
use Rattle.store.specs.Sound.{of_alphabet, reserved_at, soundb}
use Rattle.store.specs.Plain.{Open}
use Rattle.store.specs.Meaning.{opening_at, progress_at, desk_at, meaning, SittingFits, Fits}
use Rattle.store.proofs.Passing.{Passed, passed, desk_passed, context_counts}
use Rattle.store.proofs.Standing.{slots_long, seen_parent}
use Rattle.store.proofs.Holding.{total_outside, total_context, held_kept}

-- ---- a desk's meaning, by cases

pub desk_opened : (s : List ℕ) (d : ℕ) → Open s d → desk_at s d ≡ opened (opening_at s d) (progress_at s d)
desk_opened s d o = rw (lt-ltb d desks o.desk, is_true (is_open s d) o.opened)

pub desk_closed : (s : List ℕ) (d : ℕ) → (Open s d → ⊥) → desk_at s d ≡ closed
desk_closed s d n = rw (is_false (ltb d desks && is_open s d) (λ t. n (record { desk = ltb→lt d desks (left (ltb d desks) (is_open s d) t); opened = right (ltb d desks) (is_open s d) t })))

pub open? : (s : List ℕ) (d : ℕ) → Dec (Open s d)
open? s d = elim (T? (ltb d desks && is_open s d)) [
  | yes t ↦ yes (record { desk = ltb→lt d desks (left (ltb d desks) (is_open s d) t); opened = right (ltb d desks) (is_open s d) t })
  | no n ↦ no (λ o. n (both (ltb d desks) (is_open s d) (lt→ltb d desks o.desk) o.opened))
]

-- ---- recent symbols

context_of_lem : (A d : ℕ) (l : List ℕ) → T (all (of_alphabet A) l) → length l ≤ d → T (is_context A d l)
unfolding all is_context
context_of_lem A d [] t h = tt
context_of_lem A zero (x ∷ l) t h = absurd (omega arith)
context_of_lem A (suc d) (x ∷ l) t h = context_cons A d x l (ltb→lt x A (left (of_alphabet A x) (all (of_alphabet A) l) t)) (context_of_lem A d l (right (of_alphabet A x) (all (of_alphabet A) l) t) (omega arith))

-- ---- an open desk

module _ (s : List ℕ) (h : Passed s) (d : ℕ) (o : Open s d) where
  recent_long : (i : Sample) → length (take (min (size_at s d i) (depth_at s d)) (slots_at s d i)) ≡ min (size_at s d i) (depth_at s d)
  recent_long i = length-take (min (size_at s d i) (depth_at s d)) (slots_at s d i) ∙ omega (arith, slots_long s d i o.desk (omega (arith, h.framed.long)), (desk_passed s h d o).depth)

  pub sitting_fits : SittingFits (opening_at s d) (progress_at s d)
  sitting_fits = record {
    alphabet_fewest = (desk_passed s h d o).fewest;
    alphabet_most = (desk_passed s h d o).most;
    depth_most = (desk_passed s h d o).depth;
    weight_most = (desk_passed s h d o).weight;
    reserve_some = (desk_passed s h d o).some;
    sizes = (desk_passed s h d o).sizes;
    recent_length = recent_long;
    recent_below = λ i. context_of_lem (symbols_at s d) (depth_at s d) (take (min (size_at s d i) (depth_at s d)) (slots_at s d i))
        (all_take (of_alphabet (symbols_at s d)) (min (size_at s d i) (depth_at s d)) (slots_at s d i) ((desk_passed s h d o).slots i)) (omega (arith, recent_long i));
    only_contexts = λ i c a n. rw (is_false (is_context (symbols_at s d) (depth_at s d) c) n);
    only_below = λ i c a l. elim (T? (is_context (symbols_at s d) (depth_at s d) c)) [
      | yes x ↦ rw (is_true (is_context (symbols_at s d) (depth_at s d) c) x) ((context_counts s h d o c x i).quiet a l)
      | no n ↦ rw (is_false (is_context (symbols_at s d) (depth_at s d) c) n)
    ];
    totals = λ i c. elim (T? (is_context (symbols_at s d) (depth_at s d) c)) [
      | yes x ↦ omega (arith, total_context s h d o i c x, (context_counts s h d o c x i).within)
      | no n ↦ omega (arith, total_outside s d i c n)
    ];
    suffixes = λ i c a l. elim (T? (is_context (symbols_at s d) (depth_at s d) (c ++ a ∷ []))) [
      | yes x ↦
          let up = seen_parent s h d o i c a x (omega (arith, total_context s h d o i (c ++ a ∷ []) x)) in
          omega (arith, total_context s h d o i c (context_parent (symbols_at s d) (depth_at s d) c a x))
      | no n ↦ absurd (omega (arith, total_outside s d i (c ++ a ∷ []) n))
    ];
    held_reserved = omega (arith, held_kept s h d o, (desk_passed s h d o).within);
  }

-- a desk's reservation
pub desk_reserved : (s : List ℕ) (d : ℕ) → d < desks → reserved (desk_at s d) ≡ reserved_at s d
unfolding reserved
desk_reserved s d l = rw (lt-ltb d desks l) (go (is_open s d))
  where
    go : (t : Bool) → reserved (cond t (opened (opening_at s d) (progress_at s d)) closed) ≡ cond t (opening_at s d).reserve 0
    go true = refl
    go false = refl

-- what the desks of the meaning have reserved, as `reserved` answers it
pub reserved_means : (s : List ℕ) → sum desks (λ d. reserved ((meaning s).at d)) ≡ sum desks (reserved_at s)
unfolding meaning
reserved_means s = sum_cong desks (λ d l. desk_reserved s d l)

-- THEOREM. The meaning of a store that passes the test is within document 01's limits, also where its counts are those of no string
pub meaning_fits : (s : List ℕ) → soundb s ≡ true → Fits (meaning s)
unfolding meaning
meaning_fits s e =
    let h = passed s e in
    record {
      room_some = h.framed.some;
      room_most = h.framed.most;
      eight_desks = λ d l. rw (le-ltb d desks l);
      sittings = λ d o p q. elim (open? s d) [
        | yes n ↦ of_opened s d o p (sym (desk_opened s d n) ∙ q) (sitting_fits s h d n)
        | no n ↦ absurd (let z : closed ≡ opened o p = sym (desk_closed s d n) ∙ q in let w : ◌≡◌ {A = ℕ} 0 1 = cc in omega arith)
      ];
      reservations = omega (arith, reserved_means s, h.reserves);
    }
  where
    of_opened : (s : List ℕ) (d : ℕ) (o : Opening) (p : Progress) → opened (opening_at s d) (progress_at s d) ≡ opened o p → SittingFits (opening_at s d) (progress_at s d) → SittingFits o p
    of_opened s d o p q f =
        let a : opening_at s d ≡ o = cc in
        let b : progress_at s d ≡ p = cc in
        subst (λ (x : Opening). SittingFits x p) a (subst (λ (y : Progress). SittingFits (opening_at s d) y) b f)
