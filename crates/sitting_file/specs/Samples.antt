-- What an accepted file holds: A, D, n and m within their limits, and the symbols of the two samples. Assumes nothing.
use Rattle.std.specs.Prelude.{ℕ, ◌+◌, ◌-◌, ◌≤◌, ◌<◌, List, ◌≡◌, length, get_or, take, drop}
use Rattle.numbers.specs.Limits.{fewest_symbols, most_symbols, deepest, longest}
use Rattle.sitting_file.specs.declared.Shape.{Shape}

-- "A from 2 to 8; depth D from 0 to 6; each of a sitting's two samples 0 to 2,048 symbols"
pub record InLimits (shape : Shape) : Type 0 where
  pub alphabet_low : fewest_symbols ≤ shape.alphabet
  pub alphabet_high : shape.alphabet ≤ most_symbols
  pub depth_high : shape.depth ≤ deepest
  pub first_high : shape.first ≤ longest
  pub second_high : shape.second ≤ longest

-- each of some symbols is below A
abbrev pub Below : ℕ → List ℕ → Type 0
Below A symbols = (i : ℕ) → i < length symbols → get_or symbols i 0 < A

-- "the symbols are then the file's last n + m bytes, one each"
abbrev pub last_symbols : List ℕ → Shape → List ℕ
last_symbols file shape = drop (length file - (shape.first + shape.second)) file

-- the first n of them are the first sample, the m after them the second
abbrev pub first_of : List ℕ → Shape → List ℕ
first_of file shape = take shape.first (last_symbols file shape)

abbrev pub second_of : List ℕ → Shape → List ℕ
second_of file shape = drop shape.first (last_symbols file shape)

-- A and D take a byte each, n and m at most two
abbrev pub longest_header : ℕ
longest_header = 6

abbrev pub longest_file : ℕ
longest_file = longest_header + (longest + longest)

-- what is known of an accepted file: its last n + m bytes are there and below A, and are the two samples
pub record Holds (file : List ℕ) (shape : Shape) : Type 0 where
  pub limits : InLimits shape
  pub enough : shape.first + shape.second ≤ length file
  pub size : length file ≤ longest_file
  pub below : (i : ℕ) → length file - (shape.first + shape.second) ≤ i → i < length file → get_or file i 0 < shape.alphabet
  pub first_count : length (first_of file shape) ≡ shape.first
  pub second_count : length (second_of file shape) ≡ shape.second
  pub first_below : Below shape.alphabet (first_of file shape)
  pub second_below : Below shape.alphabet (second_of file shape)
