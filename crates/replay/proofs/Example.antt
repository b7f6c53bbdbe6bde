-- A run worked out, over a toy sitting that adds numbers: three desks in a room of ten; and stores of a toy kind, whose calls
-- do what the room says and may write anything beside it. Assumes nothing.
use Prim.Native.Nat.{ℕ, ◌+◌}
use mathlib.Core.Path.{◌≡◌, refl}
use mathlib.Core.List.{List, [], ◌∷◌}
use lib.Dec.{ltb}
use Rattle.numbers.specs.Sum.{sum}
use Rattle.replay.specs.Room.{Opening, Room, new, reserved, left}
use Rattle.replay.specs.Table.{Line, ◌when◌, Outcome, refused, answered, verdict_of}
use Rattle.replay.specs.Machine.{Rules, outside_limits, weight_outside, zero_or_above_k, above_room_left, put, settle, opening, asking, closing, Call, at_desk, room_question, opening_table, own_lines, asking_table, closing_table, table_at, table_of, answer_at, answer_of, verdict, moved, shift, move}
use Rattle.replay.specs.Serial.{outcomes, calls, answers, struck, played, joined, entered, sittings, oldest_first, serial}
use Rattle.replay.specs.Real.{Contracts, Made, RunsReal}
use Rattle.replay.proofs.RealRuns.{real_answers, real_room}

data Said : Type 0 where
  ok : Said
  room : ℕ → Said
  total : ℕ → Said

data Say : Type 0 where
  add : ℕ → Say
  total? : Say

abbrev toy_lines : Opening → ℕ → Say → List Line
toy_lines o s (add n) = 10 when ltb o.reserve (s + n) ∷ []
toy_lines o s total? = []

abbrev toy_answer : Opening → ℕ → Say → Said
toy_answer o s (add n) = ok
toy_answer o s total? = total s

abbrev toy_next : Opening → ℕ → Say → ℕ
toy_next o s (add n) = s + n
toy_next o s total? = s

abbrev toy : Rules
toy = record { State = ℕ; Ask = Say; Answer = Said; done = ok; room = room; fresh = λ o. 0; lines = toy_lines; answer = toy_answer; next = toy_next }

abbrev opens_as : ℕ → ℕ → ℕ → ℕ → ℕ → Call toy
opens_as d A D weight r = at_desk d (opening (record { symbols = A; depth = D; weight = weight; reserve = r }))

abbrev opens_for : ℕ → ℕ → Call toy
opens_for d r = opens_as d 2 1 4 r

abbrev asks_for : ℕ → Say → Call toy
asks_for d q = at_desk d (asking q)

abbrev closes : ℕ → Call toy
closes d = at_desk d closing

abbrev mixed : List (Call toy)
mixed =
    opens_for 0 6 ∷ opens_for 1 4 ∷ opens_for 2 1 ∷ asks_for 1 (add 3) ∷ asks_for 0 (add 5) ∷ opens_for 1 1 ∷ asks_for 1 (add 2) ∷ closes 0 ∷ room_question
    ∷ opens_for 2 6 ∷ asks_for 1 total? ∷ asks_for 0 total? ∷ asks_for 2 total? ∷ closes 1 ∷ opens_for 1 4 ∷ opens_for 8 1 ∷ opens_for 3 11 ∷ room_question ∷ []

abbrev mixed_outcomes : List (Outcome Said)
mixed_outcomes =
    answered ok ∷ answered ok ∷ refused 7 ∷ answered ok ∷ answered ok ∷ refused 3 ∷ refused 10 ∷ answered ok ∷ answered (room 6)
    ∷ answered ok ∷ answered (total 3) ∷ refused 4 ∷ answered (total 0) ∷ answered ok ∷ answered ok ∷ refused 2 ∷ refused 6 ∷ answered (room 0) ∷ []

mixed_outcomes_lem : outcomes toy (new 10) mixed ≡ mixed_outcomes
unfolding outcomes verdict verdict_of table_of table_at opening_table asking_table closing_table own_lines outside_limits weight_outside zero_or_above_k above_room_left answer_of answer_at move settle shift put moved left reserved sum
mixed_outcomes_lem = refl

-- desk 0's sitting, then desk 1's first, then desk 2's, then desk 1's second
mixed_serial : calls toy (serial toy (struck toy mixed mixed_outcomes)) ≡
    opens_for 0 6 ∷ asks_for 0 (add 5) ∷ closes 0
    ∷ opens_for 1 4 ∷ asks_for 1 (add 3) ∷ asks_for 1 total? ∷ closes 1
    ∷ opens_for 2 6 ∷ asks_for 2 total?
    ∷ opens_for 1 4 ∷ []
unfolding calls serial struck sittings entered joined oldest_first played
mixed_serial = refl

-- both sides of each limit of an opening: desk, A, D, weight, r against K, r against the room left
limits : outcomes toy (new 10)
    (opens_as 8 1 7 17 11 ∷ opens_as 7 1 7 17 11 ∷ opens_as 7 9 6 17 11 ∷ opens_as 7 2 7 17 11 ∷ opens_as 7 2 6 17 11 ∷ opens_as 7 2 6 16 11 ∷ opens_as 7 2 6 16 0 ∷ opens_as 7 2 6 16 10 ∷ opens_as 7 1 7 17 11 ∷ closes 7
    ∷ opens_as 0 8 0 0 4 ∷ opens_as 1 8 0 0 7 ∷ opens_as 1 8 0 0 6 ∷ []) ≡
    refused 2 ∷ refused 5 ∷ refused 5 ∷ refused 5 ∷ refused 20 ∷ refused 6 ∷ refused 6 ∷ answered ok ∷ refused 3 ∷ answered ok
    ∷ answered ok ∷ refused 7 ∷ answered ok ∷ []
unfolding outcomes verdict verdict_of table_of table_at opening_table closing_table outside_limits weight_outside zero_or_above_k above_room_left answer_of answer_at move settle shift put moved left reserved sum
limits = refl

-- a toy store: a room, and numbers that stand for nothing
record Store : Type 0 where
  shown : Room ℕ
  rest : List ℕ

abbrev toy_contracts : Contracts toy Store
toy_contracts = record {
  Sound = λ σ. Unit {0};
  meaning = λ σ. σ.shown;
  Does = λ σ c o τ. (o ≡ verdict toy σ.shown c) × (τ.shown ≡ move toy σ.shown c);
  stays = λ σ τ c o s d. tt;
  answers = λ σ τ c o s d. d.0;
  leaves = λ σ τ c o s d. d.1;
}

abbrev new_store : List ℕ → Store
new_store xs = record { shown = new 10; rest = xs }

new_made : (xs : List ℕ) → Made toy Store toy_contracts 10 (new_store xs)
new_made xs = record { sound = tt; empty = refl }

-- demand 3 for two toy stores that differ in all that stands for nothing
module _ (xs ys : List ℕ) (τ τ' : Store) (cs : List (Call toy)) (os os' : List (Outcome Said))
    (run : RunsReal toy Store toy_contracts (new_store xs) cs os τ)
    (again : RunsReal toy Store toy_contracts (new_store ys) (calls toy (serial toy (struck toy cs os))) os' τ') where
  toy_answers : os' ≡ answers toy (serial toy (struck toy cs os))
  toy_answers = real_answers toy Store toy_contracts 10 (new_store xs) τ (new_store ys) τ' cs os os' (new_made xs) run (new_made ys) again

  toy_room : τ'.shown ≡ τ.shown
  toy_room = real_room toy Store toy_contracts 10 (new_store xs) τ (new_store ys) τ' cs os os' (new_made xs) run (new_made ys) again
