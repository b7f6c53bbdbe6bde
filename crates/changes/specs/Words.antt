-- Numbers as a store lends them. Assumes nothing.
use Rattle.std.specs.Prelude.{ℕ, ◌^◌, ◌<◌, List, [], ◌∷◌}

-- "numbers of 32 bits"
abbrev pub Words : List ℕ → Type 0
Words [] = Unit {0}
Words (x ∷ l) = (x < 2 ^ 32) × Words l
