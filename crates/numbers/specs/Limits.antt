-- The limits of document 01, each named once. Assumes nothing.
use Rattle.std.specs.Prelude.{ℕ}

-- A is from 2 to 8
abbrev pub fewest_symbols : ℕ
fewest_symbols = 2

abbrev pub most_symbols : ℕ
most_symbols = 8

-- D is from 0 to 6
abbrev pub deepest : ℕ
deepest = 6

-- a sample has 0 to 2,048 symbols
abbrev pub longest : ℕ
longest = 2048

-- both samples together: no count that the logarithm or the chart is asked for is above it
abbrev pub most_counted : ℕ
most_counted = 4096

-- L(4096), the greatest logarithm
abbrev pub top_log : ℕ
top_log = 12288

-- a weight is from 0 to 16 quarters
abbrev pub most_weight : ℕ
most_weight = 16

-- four quarters: the plain penalty
abbrev pub plain_weight : ℕ
plain_weight = 4

-- desks 0 to 7
abbrev pub desks : ℕ
desks = 8

-- K is from 1 to 4,096
abbrev pub most_room : ℕ
most_room = 4096

-- "A row is 11 numbers"
abbrev pub row_width : ℕ
row_width = 11
