-- THE ORDER OF REFUSALS: the numbers of each call, the one that goes first in front. Where several apply, the first of the list is given. Document 01 gives
-- "the lowest number"; document 02 says where a later number stands. Each table has exactly its list, an ask's at a desk that is not open its list up to 4: proofs/Numbers
-- `in_order`, demands/specs/Demands `in_order`, judgement/proofs/Exactly `file_in_order`. Assumes nothing.
use Rattle.std.specs.Prelude.{ℕ, cond, List, [], ◌∷◌, map, take}
use Rattle.contexts.specs.Sitting.{Progress}
use Rattle.replay.specs.Room.{Room}
use Rattle.replay.specs.Table.{Line, line_number}
use Rattle.replay.specs.Machine.{opening, asking, closing, Call, at_desk, room_question, is_opened}
use Rattle.rules.specs.Rules.{feed, reporting, charting, rules}

-- ---- the lists

-- of a call at a store; 1 goes before them all
unfoldable pub order_of : Call rules → List ℕ
-- E5: "20, after 5 and before 6"
order_of (at_desk d (opening o)) = 2 ∷ 3 ∷ 5 ∷ 20 ∷ 6 ∷ 7 ∷ []
order_of (at_desk d (asking (feed i a))) = 2 ∷ 4 ∷ 8 ∷ 9 ∷ 10 ∷ []
-- E8: "24, after 11 and before 12"
order_of (at_desk d (asking (reporting sheet place))) = 2 ∷ 4 ∷ 11 ∷ 24 ∷ 12 ∷ []
order_of (at_desk d (asking (charting len code a))) = 2 ∷ 4 ∷ 8 ∷ []
order_of (at_desk d closing) = 2 ∷ 4 ∷ []
order_of room_question = []

-- of a making
abbrev pub making_order : List ℕ
making_order = 17 ∷ 18 ∷ []

-- of a writing of a sitting file (E1: "19, after 15")
abbrev pub writing_order : List ℕ
writing_order = 15 ∷ 19 ∷ []

-- of a salvage whose header is whole (E12: "then 19"); else it has one number, 13 to 15, by the first fault from the left
abbrev pub salvage_order : List ℕ
salvage_order = 19 ∷ []

-- of the program, where the reader accepts the file: those of its feeds and then of its report; else it has one number, 13 to 16, by the first fault from the left
abbrev pub program_order : List ℕ
program_order = 10 ∷ 11 ∷ 24 ∷ 12 ∷ []

-- ---- the tables

-- the numbers of a table's lines, in their order
abbrev pub numbers_in : List Line → List ℕ
numbers_in ls = map line_number ls

-- what of its list a call is held to in a room: all; an ask at a desk that is not open up to 4, which applies there, for no sitting is there to judge it by
unfoldable pub order_in : Room Progress → Call rules → List ℕ
order_in ρ (at_desk d (opening o)) = order_of (at_desk d (opening o))
order_in ρ (at_desk d (asking q)) = cond (is_opened (ρ.at d)) (order_of (at_desk d (asking q))) (take 2 (order_of (at_desk d (asking q))))
order_in ρ (at_desk d closing) = order_of (at_desk d closing)
order_in ρ room_question = order_of room_question
