-- The soundness test: a test of the store's numbers, made of one test for each desk and one for each record. It reads the header and the
-- records in use, and finds the record of a shorter context by its key. Assumes nothing.
use Rattle.std.specs.Prelude.{Bool, true, cond, ◌&&◌, ◌||◌, List, ℕ, ◌+◌, get_or, length, leb, ltb, eqb}
use Rattle.numbers.specs.Limits.{fewest_symbols, most_symbols, deepest, most_weight, longest, desks, most_room}
use Rattle.numbers.specs.Sum.{sum}
use Rattle.numbers.specs.Every.{every, all}
use Rattle.contexts.specs.Context.{is_context, parent_of}
use Rattle.contexts.specs.Keys.{key_of, desk_of, context_of}
use Rattle.contexts.specs.Sitting.{Sample, first, second, sum_of}
use Rattle.records.specs.Records.{key, keys, counts_of, rises, lookup}
use Rattle.records.specs.Held.{keep, of_desk}
use Rattle.store.specs.Layout.{store_size, room, used, is_open, symbols_at, depth_at, weight_at, reserve_at, size_at, slots_at, records_in, total_of}

-- both samples pass
abbrev pub each_sample : (Sample → Bool) → Bool
each_sample f = f first && f second

-- ---- the store's size

-- K is within its limits, the numbers are enough for it, and there are no more records than that
unfoldable pub frame_ok : List ℕ → Bool
frame_ok s = leb 1 (room s) && (leb (room s) most_room && (leb (store_size (room s)) (length s) && leb (used s) (room s)))

-- ---- a desk

-- A, D, the weight, the reservation and the lengths are within their limits
unfoldable pub limits_ok : List ℕ → ℕ → Bool
limits_ok s d =
    leb fewest_symbols (symbols_at s d)
    && (leb (symbols_at s d) most_symbols
    && (leb (depth_at s d) deepest
    && (leb (weight_at s d) most_weight
    && (leb 1 (reserve_at s d)
    && each_sample (λ i. leb (size_at s d i) longest)))))

-- a symbol is of the alphabet
abbrev pub of_alphabet : ℕ → ℕ → Bool
of_alphabet A x = ltb x A

-- the places of the recent symbols have symbols
abbrev pub slots_ok : List ℕ → ℕ → Bool
slots_ok s d = each_sample (λ i. all (of_alphabet (symbols_at s d)) (slots_at s d i))

-- a desk of so many records, where it is open
unfoldable pub desk_test : List ℕ → ℕ → ℕ → Bool
desk_test s d many = cond (is_open s d) (limits_ok s d && (leb many (reserve_at s d) && slots_ok s d)) true

-- how many of the records are a desk's
abbrev pub held_by : ℕ → List (List ℕ) → ℕ
held_by d rs = length (keep (of_desk d) rs)

abbrev pub desk_ok : List ℕ → List (List ℕ) → ℕ → Bool
desk_ok s rs d = desk_test s d (held_by d rs)

-- what a desk has reserved
abbrev pub reserved_at : List ℕ → ℕ → ℕ
reserved_at s d = cond (is_open s d) (reserve_at s d) 0

-- ---- a record

-- a key is that of a context of an open desk
unfoldable pub key_ok : List ℕ → ℕ → Bool
key_ok s k =
    ltb (desk_of k) desks
    && (is_open s (desk_of k)
    && (is_context (symbols_at s (desk_of k)) (depth_at s (desk_of k)) (context_of k)
    && eqb (key_of (desk_of k) (context_of k)) k))

-- of eight counts none is above 0 from symbol A up
unfoldable pub quiet_from : ℕ → List ℕ → Bool
quiet_from A part = every most_symbols (λ a. ltb a A || eqb (get_or part a 0) 0)

-- .. and their sum is at most n
unfoldable pub counts_ok : ℕ → ℕ → List ℕ → Bool
counts_ok A n part = quiet_from A part && leb (sum_of part) n

-- a record's counts in a sample, by what its desk says
abbrev pub sample_ok : List ℕ → List ℕ → Sample → Bool
sample_ok s r i = counts_ok (symbols_at s (desk_of (key r))) (size_at s (desk_of (key r)) i) (counts_of i r)

-- the counts of both samples, at least one of them above 0
unfoldable pub table_ok : List ℕ → List ℕ → Bool
table_ok s r = each_sample (sample_ok s r) && ltb 0 (total_of first r + total_of second r)

-- the key of a key's parent
abbrev pub parent_key : ℕ → ℕ
parent_key k = key_of (desk_of k) (parent_of (context_of k))

-- a context that a sample has seen is one whose parent it has seen; the empty context is its own
unfoldable pub parent_ok : List (List ℕ) → List ℕ → Sample → Bool
parent_ok rs r i = eqb (total_of i r) 0 || ltb 0 (total_of i (lookup (parent_key (key r)) rs))

unfoldable pub record_ok : List ℕ → List (List ℕ) → List ℕ → Bool
record_ok s rs r = key_ok s (key r) && (table_ok s r && each_sample (parent_ok rs r))

-- the records stand in the order of their keys, and each passes
unfoldable pub records_ok : List ℕ → List (List ℕ) → Bool
records_ok s rs = rises 0 (keys rs) && all (record_ok s rs) rs

-- ---- the whole test

unfoldable pub soundb : List ℕ → Bool
soundb s =
    frame_ok s
    && ((records_ok s (records_in s) && every desks (desk_ok s (records_in s)))
    && leb (sum desks (reserved_at s)) (room s))
