-- `work_out` meets its contract: each place passed has L of its number. Assumes nothing.
use Rattle.std.proofs.Common.{◌≡◌, ℕ, ◌<◌, get_or}
use Rattle.logarithm.specs.Logarithm.{L}
use Rattle.logarithm.proofs.work_out.Given as goal

abbrev pub invariant-loop-n : goal.invariant-loop-n
invariant-loop-n l = (k : ℕ) → k < l.n → get_or l.values k 0 ≡ L k
