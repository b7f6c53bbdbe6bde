-- The definitions, run: the first sample 0101 of J1 (A 2, D 1) is fed at desk 2 to a store that holds nothing. Assumes nothing.
use mathlib.Core.Path.{◌≡◌, refl}
use mathlib.Core.List.{List, [], ◌∷◌}
use Prim.Native.Nat.{ℕ}
use lib.ListN.{length}
use Rattle.numbers.specs.Sum.{sum}
use Rattle.contexts.specs.Keys.{digits, key_of}
use Rattle.contexts.specs.Sitting.{first, second}
use Rattle.records.specs.Records.{keys, counts_of, lookup}
use Rattle.records.specs.Held.{held, keep, without, count_at}
use Rattle.records.specs.Bumped.{cell_of, bumped_at}
use Rattle.records.specs.Fed.{fed_to, fed, fresh, missing}
use Rattle.recording.specs.Counted.{with_missing}

-- after two symbols, the first of which is not counted (document 02, E3), and after all four
half : List (List ℕ)
half = fed 2 first 1 (0 ∷ []) []

whole : List (List ℕ)
whole = fed 2 first 1 (0 ∷ []) (fed 2 first 0 (1 ∷ []) half)

-- the empty context, 0 and 1 are held, in row order: three records, as J1 needs
held_there : keys whole ≡ key_of 2 [] ∷ key_of 2 (0 ∷ []) ∷ key_of 2 (1 ∷ []) ∷ []
unfolding half whole fed_to bumped_at digits
held_there = refl

-- the second symbol, the first that is counted, brings the contexts of every length
second_both : missing 2 (0 ∷ []) [] ≡ 2
unfolding digits held sum
second_both = refl

-- the third symbol brings the context 1
third : missing 2 (1 ∷ []) half ≡ 1
unfolding half fed_to bumped_at digits held sum
third = refl

-- .. whose record is put in at place 2, once the empty context has got one more
third_added : with_missing 2 (1 ∷ []) 1 2 (cell_of first 0) (fed_to 1 2 first 0 (1 ∷ []) half) ≡ fed 2 first 0 (1 ∷ []) half
unfolding half fed_to bumped_at digits fresh
third_added = refl

-- the empty context has counted 0 once and 1 twice, as its children have together: 0 is followed by 1 twice, 1 by 0 once; the second sample has seen nothing
counts_empty : counts_of first (lookup (key_of 2 []) whole) ≡ 1 ∷ 2 ∷ 0 ∷ 0 ∷ 0 ∷ 0 ∷ 0 ∷ 0 ∷ []
unfolding half whole fed_to bumped_at digits lookup
counts_empty = refl

counts_first : counts_of first (lookup (key_of 2 (0 ∷ [])) whole) ≡ 0 ∷ 2 ∷ 0 ∷ 0 ∷ 0 ∷ 0 ∷ 0 ∷ 0 ∷ []
unfolding half whole fed_to bumped_at digits lookup
counts_first = refl

count_one : count_at (key_of 2 (1 ∷ [])) first 0 whole ≡ 1
unfolding half whole fed_to bumped_at digits lookup
count_one = refl

count_second : count_at (key_of 2 []) second 0 whole ≡ 0
unfolding half whole fed_to bumped_at digits lookup
count_second = refl

-- closing the desk leaves nothing, closing another all three
closed : length (without 2 whole) ≡ 0
unfolding half whole fed_to bumped_at digits keep
closed = refl

other_closed : length (without 1 whole) ≡ 3
unfolding half whole fed_to bumped_at digits keep
other_closed = refl
