-- One-to-one renamings of the numbers below a bound. Assumes nothing.
use Rattle.std.specs.Prelude.{ℕ, ◌<◌, ◌≡◌}

-- π takes the numbers below n to numbers below n, no two to the same; nothing is asked of it elsewhere
pub record Renames (n : ℕ) (π : ℕ → ℕ) : Type 0 where
  pub within : (a : ℕ) → a < n → π a < n
  pub once : (a b : ℕ) → a < n → b < n → π a ≡ π b → a ≡ b
