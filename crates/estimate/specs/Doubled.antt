-- The score as document 01 has it, before sittings had a weight: the fit doubled, and one penalty for each context. It is kept for the law that weight 4
-- picks its triple, and for nothing else. Assumes nothing.
use Rattle.std.specs.Prelude.{ℕ, ◌-◌, ◌*◌, ◌≡◌, ℤ, pos, ◌-ℤ◌, ◌*ℤ◌}
use Rattle.numbers.specs.Limits.{plain_weight}
use Rattle.logarithm.specs.Logarithm.{L}
use Rattle.contexts.specs.Sitting.{Sitting}
use Rattle.estimate.specs.Trees.{Triple}
use Rattle.estimate.specs.Score.{counts, size_of, terms, whole, Worths, worths, score, Best}
use Rattle.estimate.specs.Ties.{KeepsTies}

-- "fit = 2 times (sum of c·L(c), less t·L(t))"
abbrev pub doubled_fit : ℕ → (ℕ → ℕ) → ℤ
doubled_fit A c = pos 2 *ℤ (pos (terms A c) -ℤ pos (whole A c))

-- "A context costs (A-1)·L(n) .., (A-1)·L(m) .., (A-1)·L(n+m) when shared"
abbrev pub doubled_worths : Sitting → Worths
doubled_worths x k s = doubled_fit x.symbols (counts x k s) -ℤ pos ((x.symbols - 1) * L (size_of x k))

-- "weight 4 picks the old triple and prints four times the old score"
pub record AsDoubled (x : Sitting) (t : Triple) : Type 0 where
  -- it is the triple of the doubled score: the best, by the tie rules ..
  pub best : Best x.symbols x.depth (doubled_worths x) t
  pub ties : KeepsTies x.symbols x.depth (doubled_worths x) t
  -- .. which no other is
  pub only : (u : Triple) → Best x.symbols x.depth (doubled_worths x) u → KeepsTies x.symbols x.depth (doubled_worths x) u → u ≡ t
  -- every triple scores four times as much
  pub four_times : (u : Triple) → score x.symbols x.depth (worths x) u ≡ pos plain_weight *ℤ score x.symbols x.depth (doubled_worths x) u
