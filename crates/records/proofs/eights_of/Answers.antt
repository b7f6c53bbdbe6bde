-- `records::eights_of` meets its contract: the shift at each of the eight lengths. Assumes nothing.
use mathlib.Core.Path.{◌≡◌, refl}
use Prim.Native.Nat.{ℕ, ◌-◌, ◌*◌, ◌%◌, ◌^◌, ◌<◌}
use native.Mathlib.Omega.{arith}
use Rattle.contexts.specs.Keys.{eights}
use Rattle.contexts.proofs.Digits.{each_length}
use Rattle.records.proofs.eights_of.Goals as goal

-- the shift's value
eights_at : (n : ℕ) → n < 8 → (1 * 2 ^ (21 - 3 * n) % 4294967296 ≡ eights n) × (0 < 1 * 2 ^ (21 - 3 * n) % 4294967296)
unfolding eights
eights_at = each_length (λ n. (1 * 2 ^ (21 - 3 * n) % 4294967296 ≡ eights n) × (0 < 1 * 2 ^ (21 - 3 * n) % 4294967296))
    (refl, omega arith) (refl, omega arith) (refl, omega arith) (refl, omega arith)
    (refl, omega arith) (refl, omega arith) (refl, omega arith) (refl, omega arith)

pub returns : goal.returns
returns c = let h = eights_at c.args.len c.requires in record { power = h.0; positive = h.1 }
