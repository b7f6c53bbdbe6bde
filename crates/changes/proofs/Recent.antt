-- The recent symbols of a sound store's sample, before and after one more. Assumes nothing.
use mathlib.Core.Path.{◌≡◌, refl, sym, ap, ◌∙◌}
use mathlib.Core.Bool.{true}
use mathlib.Core.List.{List, [], ◌∷◌}
use Prim.Native.Nat.{ℕ, zero, suc, min, ◌+◌, ◌≤◌}
use native.Mathlib.Omega.{arith}
use lib.ListN.{take}
use Rattle.numbers.specs.Limits.{most_symbols, deepest}
use Rattle.contexts.specs.Sitting.{Sample}
use Rattle.contexts.proofs.Strings.{context_more}
use Rattle.contexts.proofs.KeyOrder.{Within}
use Rattle.store.specs.Layout.{symbols_at, depth_at}
use Rattle.store.specs.Sound.{soundb}
use Rattle.store.specs.Plain.{Open, ContextAt}
use Rattle.store.proofs.Passing.{passed, desk_passed}
use Rattle.store.proofs.Fitting.{sitting_fits}
use Rattle.changes.specs.FedStore.{recent_at, shifted}

module _ (s : List ℕ) (h : soundb s ≡ true) (d : ℕ) (o : Open s d) where
  pub recent_context : (i : Sample) → ContextAt s d (recent_at s d i)
  recent_context i = (sitting_fits s (passed s h) d o).recent_below i

  -- a context of the desk is within document 01's limits
  pub within : (c : List ℕ) → ContextAt s d c → Within c
  within c x =
      let g = desk_passed s (passed s h) d o in
      context_more (symbols_at s d) most_symbols (depth_at s d) deepest c g.most g.depth x

  pub recent_within : (i : Sample) → Within (recent_at s d i)
  recent_within i = within (recent_at s d i) (recent_context i)

-- the first of the first
take_min : (m n k : ℕ) (l : List ℕ) → k ≡ min m n → take m (take n l) ≡ take k l
take_min zero n k l e = let z : k ≡ 0 = omega arith in rw z
take_min (suc m) zero k l e = let z : k ≡ 0 = omega arith in rw z
take_min (suc m) (suc n) zero l e = absurd (omega arith)
take_min (suc m) (suc n) (suc k) [] e = refl
take_min (suc m) (suc n) (suc k) (x ∷ l) e = ap (λ (t : List ℕ). x ∷ t) (take_min m n k l (omega arith))

-- the last up to D symbols after symbol a, from the six places
pub recent_shifted : (n D a : ℕ) (slots : List ℕ) → D ≤ deepest → take (min (n + 1) D) (shifted a slots) ≡ take D (a ∷ take (min n D) slots)
recent_shifted n zero a slots l = let e : min (n + 1) 0 ≡ 0 = omega arith in rw e
recent_shifted n (suc D) a slots l =
    let e : min (n + 1) (suc D) ≡ suc (min n D) = omega arith in
    rw e (ap (λ (t : List ℕ). a ∷ t) (take_min (min n D) 5 (min n D) slots (omega arith) ∙ sym (take_min D (min n (suc D)) (min n D) slots (omega arith))))
