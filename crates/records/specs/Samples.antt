-- The two samples as the code names them: their numbers. Assumes nothing.
use Rattle.std.specs.Prelude.{◌≡◌, ℕ, ◌<◌, Result, MatchResult}
use Rattle.records.specs.declared.NoSample.{NoSample}
use Rattle.records.specs.declared.Sample.{Sample}
use Rattle.records.specs.declared.Sample.TheVariants.{First, Second}

-- a sample's number
abbrev pub sample_index : Sample → ℕ
sample_index First = 0
sample_index Second = 1

-- the sample with this number, or an error with a number that no sample has
abbrev pub Names : ℕ → Result Sample NoSample → Type 0
Names number r = MatchResult r (λ s. sample_index s ≡ number) (λ e. (e.0 ≡ number) × (1 < number))
