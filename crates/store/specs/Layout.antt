-- The numbers of a store: a header of 2,048 numbers, then the records of all desks. Assumes nothing.
use Rattle.std.specs.Prelude.{Bool, List, ℕ, ◌+◌, ◌*◌, take, drop, get_or, eqb}
use Rattle.numbers.specs.Limits.{deepest}
use Rattle.contexts.specs.Sitting.{Sample, first, second, sum_of}
use Rattle.records.specs.Records.{width, records, counts_of}

-- how many numbers the header has
abbrev pub header_size : ℕ
header_size = 2048

-- "Making a store lends at least 2,048 + 24·K numbers"
abbrev pub store_size : ℕ → ℕ
store_size K = header_size + width * K

-- ---- the header

-- K
abbrev pub room : List ℕ → ℕ
room s = get_or s 0 0

-- the number of records in use
abbrev pub used : List ℕ → ℕ
used s = get_or s 1 0

-- where the numbers of a desk begin; each desk has 32
abbrev pub desk_start : ℕ → ℕ
desk_start d = 16 + 32 * d

-- .. the first five of them as the opening left them: open or not, A, D, the weight, the reservation
abbrev pub opening_numbers : ℕ
opening_numbers = 5

-- .. and behind them the two lengths and six recent symbols of each sample, in use as well
abbrev pub desk_numbers : ℕ
desk_numbers = opening_numbers + 14

abbrev pub field : List ℕ → ℕ → ℕ → ℕ
field s d f = get_or s (desk_start d + f) 0

-- 1 is open, anything else closed
abbrev pub is_open : List ℕ → ℕ → Bool
is_open s d = eqb (field s d 0) 1

-- A, D, the weight and the reservation
abbrev pub symbols_at : List ℕ → ℕ → ℕ
symbols_at s d = field s d 1

abbrev pub depth_at : List ℕ → ℕ → ℕ
depth_at s d = field s d 2

abbrev pub weight_at : List ℕ → ℕ → ℕ
weight_at s d = field s d 3

abbrev pub reserve_at : List ℕ → ℕ → ℕ
reserve_at s d = field s d 4

-- n and m
abbrev pub size_field : Sample → ℕ
size_field first = opening_numbers
size_field second = opening_numbers + 1

abbrev pub size_at : List ℕ → ℕ → Sample → ℕ
size_at s d i = field s d (size_field i)

-- where a sample's six recent symbols begin, the most recent first
abbrev pub recent_field : Sample → ℕ
recent_field first = opening_numbers + 2
recent_field second = opening_numbers + 8

abbrev pub slots_at : List ℕ → ℕ → Sample → List ℕ
slots_at s d i = take deepest (drop (desk_start d + recent_field i) s)

-- ---- the records

-- the records in use, those of all desks, in the order of their keys
unfoldable pub records_in : List ℕ → List (List ℕ)
records_in s = records (used s) (drop header_size s)

-- N(s) of a record in a sample
abbrev pub total_of : Sample → List ℕ → ℕ
total_of i r = sum_of (counts_of i r)
