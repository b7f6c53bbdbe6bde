-- A string that grows holds what it held: "some feed goes past the reservation" is the same as "all of them together do". Assumes nothing.
use Prim.Native.Nat.{ℕ, ◌+◌, ◌≤◌}
use native.Mathlib.Nat.{le_refl, le_trans, add-le-add}
use native.Mathlib.Omega.{arith}
use mathlib.Core.Path.{◌≡◌, refl}
use mathlib.Core.Bool.{Bool, true, false, cond}
use mathlib.Core.List.{List, [], ◌∷◌, reverse_aux}
use lib.Dec.{ltb}
use borrow.Author.Tests.{ltb-true, lt-ltb}
use Rattle.numbers.specs.Sum.{one}
use Rattle.numbers.proofs.Sums.{sum_mono, sum_zero}
use Rattle.contexts.specs.Counts.{N}
use Rattle.contexts.specs.Sitting.{Sample, first, second, same_sample, total_in, contexts_held}
use Rattle.contexts.proofs.Totalling.{total_mono, total_none}
use Rattle.replay.specs.Room.{Opening}
use Rattle.rules.specs.Feed.{counted_from}
use Rattle.rules.specs.Strings.{push, sitting_for}

-- ---- one more symbol

tests_mono : (m n : ℕ) → m ≤ n → one (ltb 0 m) ≤ one (ltb 0 n)
tests_mono m n h = go (ltb 0 m) refl
  where
    go : (b : Bool) → ltb 0 m ≡ b → one b ≤ one (ltb 0 n)
    go true e = let l = ltb-true 0 m e in rw (lt-ltb 0 n (omega arith)) (le_refl 1)
    go false e = omega arith

module _ (o : Opening) (w : Sample → List ℕ) (i : Sample) (a : ℕ) where
  count_more : (b : Bool) (past s : List ℕ) (x : ℕ) → N (counted_from o) past s x ≤ N (counted_from o) (cond b (a ∷ past) past) s x
  unfolding N
  count_more true past s x = omega arith
  count_more false past s x = le_refl (N (counted_from o) past s x)

  total_more : (j : Sample) (s : List ℕ) → total_in (sitting_for o w) j s ≤ total_in (sitting_for o (push i a w)) j s
  total_more j s = sum_mono o.symbols (λ x l. count_more (same_sample j i) (w j) s x)

  pub held_more : contexts_held (sitting_for o w) ≤ contexts_held (sitting_for o (push i a w))
  held_more = total_mono o.symbols o.depth (λ s. tests_mono _ _ (add-le-add (total_more first s) (total_more second s)))

-- two empty strings hold nothing
pub held_none : (o : Opening) → contexts_held (sitting_for o (λ i. [])) ≡ 0
unfolding N
held_none o =
    let none : (s : List ℕ) → one (ltb 0 (total_in (sitting_for o (λ i. [])) first s + total_in (sitting_for o (λ i. [])) second s)) ≡ 0 = λ s. rw (sum_zero o.symbols {f = λ a. 0} (λ a l. refl)) in
    total_none o.symbols o.depth none

-- ---- a row of symbols, oldest first

unfoldable pub pushed : Sample → List ℕ → (Sample → List ℕ) → Sample → List ℕ
pushed i [] w = w
pushed i (a ∷ us) w = pushed i us (push i a w)

pub held_pushed : (o : Opening) (i : Sample) (us : List ℕ) (w : Sample → List ℕ) → contexts_held (sitting_for o w) ≤ contexts_held (sitting_for o (pushed i us w))
unfolding pushed
held_pushed o i [] w = le_refl (contexts_held (sitting_for o w))
held_pushed o i (a ∷ us) w = le_trans (held_more o w i a) (held_pushed o i us (push i a w))

-- the sample that is fed has them reversed before what it had, the other stays
pub pushed_is : (i j : Sample) (us : List ℕ) (w : Sample → List ℕ) → pushed i us w j ≡ cond (same_sample j i) (reverse_aux us (w j)) (w j)
unfolding pushed
pushed_is first first [] w = refl
pushed_is first second [] w = refl
pushed_is second first [] w = refl
pushed_is second second [] w = refl
pushed_is first first (a ∷ us) w = pushed_is first first us (push first a w)
pushed_is first second (a ∷ us) w = pushed_is first second us (push first a w)
pushed_is second first (a ∷ us) w = pushed_is second first us (push second a w)
pushed_is second second (a ∷ us) w = pushed_is second second us (push second a w)
