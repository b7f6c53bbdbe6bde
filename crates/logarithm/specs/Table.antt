-- What is lent for reading logarithms. Assumes nothing.
use Rattle.std.specs.Prelude.{◌≡◌, List, ℕ, ◌<◌, length, get_or}
use Rattle.logarithm.specs.Logarithm.{L}

-- each of the numbers is L of its place
pub record AreLogs (xs : List ℕ) : Type 0 where
  pub right : (n : ℕ) → n < length xs → get_or xs n 0 ≡ L n
