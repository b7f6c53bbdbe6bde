-- A loss with a minus sign, as a number of 64 bits. Assumes nothing.
use Prim.Native.Nat.{ℕ, zero, suc, ◌^◌, ◌<◌}
use native.Mathlib.Omega.{arith}
use mathlib.Core.Path.{◌≡◌, ap, ◌∙◌}
use lib.IntN.{ℤ, pos, neg_ℤ}
use mir.Syntax.{w64}
use mir.Val.{SFits, to_z, of_z}
use mir.Facts.{to_z-of_z}

minus_fits : (k : ℕ) → k < 2 ^ 63 → SFits w64 (neg_ℤ (pos k))
minus_fits zero h = record { sfits = omega arith }
minus_fits (suc j) h = record { sfits = omega arith }

-- and it reads back from its bits
pub minus_back : (k : ℕ) (z : ℤ) → k < 2 ^ 63 → z ≡ neg_ℤ (pos k) → to_z w64 (of_z w64 z) ≡ neg_ℤ (pos k)
minus_back k z h e = ap (λ (x : ℤ). to_z w64 (of_z w64 x)) e ∙ to_z-of_z (minus_fits k h)
