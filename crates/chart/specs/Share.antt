-- The share of a symbol in a sample's context (document 01, "Chart question"). Assumes nothing.
use Rattle.std.specs.Prelude.{ℕ, ◌≤◌, ◌<◌, ◌≡◌, false, ◌↔◌, T, pos, Float}
use Rattle.std.specs.Float.{fin, binary64}
use Rattle.std.specs.Float.Ieee.{of_int, div, le}
use Rattle.numbers.specs.Limits.{most_counted}

-- "share = N(s,a) / N(s) in 64-bit floating point, one division of exact whole numbers": of a count and its total
abbrev pub share : ℕ → ℕ → Float
share c t = div binary64 (of_int binary64 (pos c)) (of_int binary64 (pos t))

-- 0.0 and 1.0
abbrev pub zero64 : Float
zero64 = fin false 0 (pos 0)

abbrev pub one64 : Float
one64 = fin false 1 (pos 0)

-- a count c of a total t, in a sample that saw the context
pub record Charted (c t : ℕ) : Type 0 where
  pub part : c ≤ t
  pub seen : 0 < t
  pub most : t ≤ most_counted

-- "A share lies from 0 to 1; it is 0 exactly when the count is 0 and 1 exactly when the count is the total."
pub record Proper (c t : ℕ) (r : Float) : Type 0 where
  pub low : T (le zero64 r)
  pub high : T (le r one64)
  pub at_zero : (r ≡ zero64) ↔ (c ≡ 0)
  pub at_one : (r ≡ one64) ↔ (c ≡ t)
