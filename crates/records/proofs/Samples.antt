-- There are two samples. Assumes nothing.
use mathlib.Core.Path.{◌≡◌}
use Prim.Native.Nat.{ℕ, ◌≤◌}
use native.Mathlib.Omega.{arith}
use Rattle.records.specs.declared.Sample.{Sample}
use Rattle.records.specs.declared.Sample.TheVariants.{First, Second}
use Rattle.records.specs.Samples.{sample_index}

pub one_of_two : (s : Sample) → sample_index s ≤ 1
one_of_two First = omega arith
one_of_two Second = omega arith

-- a number that a sample has
pub few_samples : (s : Sample) (k : ℕ) → sample_index s ≡ k → k ≤ 1
few_samples s k e = omega (arith, one_of_two s)
