-- What printing into lent bytes asks and promises. Assumes nothing.
use Rattle.std.specs.Prelude.{ℕ, ◌*◌, ◌≤◌, ◌≡◌, List, length, take, drop}
use Rattle.numbers.specs.Limits.{most_symbols, row_width}

-- "a sheet of 512 rows"
abbrev pub most_rows : ℕ
most_rows = 512

-- bytes enough for every report of so many rows, whatever its numbers of 32 bits and its score of 64 bits
abbrev pub text_bytes : ℕ
text_bytes = 65536

-- what is known of a report to be printed: A is within its limit, and the rows stand on the sheet
pub record Printable (A rows : ℕ) (sheet : List ℕ) : Type 0 where
  pub alphabet : A ≤ most_symbols
  pub few : rows ≤ most_rows
  pub whole : row_width * rows ≤ length sheet

-- the first bytes, as many as answered, are the text, and every byte past them is as before
pub record Printed (text before after : List ℕ) (answer : ℕ) : Type 0 where
  pub bytes : take answer after ≡ text
  pub past : drop answer after ≡ drop answer before
  -- that there are so many, said twice so that a caller may lend the text on without a proof
  pub within : answer ≤ length after
  pub count : answer ≡ length (take answer after)
