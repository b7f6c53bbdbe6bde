-- The room's machine: what each call answers, by the table of refusals that concerns it, and the room that it leaves.
-- What a sitting does by itself (feed, report, chart question) is a parameter, the record `Rules`. Refusal 1 stands outside:
-- it is about a store's numbers. Assumes nothing.
use Rattle.std.specs.Prelude.{ℕ, Bool, true, false, cond, not, ◌||◌, List, [], ◌∷◌, leb, ltb, eqb}
use Rattle.numbers.specs.Limits.{fewest_symbols, most_symbols, deepest, most_weight, desks}
use Rattle.replay.specs.Room.{Opening, Desk, closed, opened, Room, left}
use Rattle.replay.specs.Table.{Line, ◌when◌, Outcome, refused, answered, verdict_of}

-- a sitting by itself
pub record Rules : Type 1 where
  -- what a sitting has so far
  pub State : Type 0
  -- a feed, a report or a chart question, with all that its caller names
  pub Ask : Type 0
  -- what an accepted call answers, with what it wrote (a report's rows)
  pub Answer : Type 0
  -- "answers only that it was done"
  pub done : Answer
  -- what the room question answers where that much room is left
  pub room : ℕ → Answer
  -- "a desk opens with both samples empty"
  pub fresh : Opening → State
  -- an ask's own refusals, behind 4, judged by the sitting alone
  pub lines : Opening → State → Ask → List Line
  -- what an accepted ask answers, and the sitting after it
  pub answer : Opening → State → Ask → Answer
  pub next : Opening → State → Ask → State

-- what an opening is held to: the room's size and the room left
pub record Spare : Type 0 where
  pub size : ℕ
  pub free : ℕ

abbrev pub spare : {State : Type 0} → Room State → Spare
spare ρ = record { size = ρ.made; free = left ρ }

-- the desks with v at desk d
unfoldable pub put : {State : Type 0} → (ℕ → Desk State) → ℕ → Desk State → ℕ → Desk State
put at d v e = cond (eqb e d) v (at e)

-- what stands after a call: a refusal changes nothing
unfoldable pub settle : {Answer Thing : Type 0} → Outcome Answer → Thing → Thing → Thing
settle (refused n) before changed = before
settle (answered a) before changed = changed

-- ---- the tables: for each call one line for each refusal of the documents that concerns it, in the order given

-- "desk number above 7"
abbrev pub no_such_desk : ℕ → Bool
no_such_desk d = leb desks d

-- whether a desk is open
abbrev pub is_opened : {State : Type 0} → Desk State → Bool
is_opened closed = false
is_opened (opened o s) = true

-- "A or D outside its limits"
unfoldable pub outside_limits : Opening → Bool
outside_limits o = ltb o.symbols fewest_symbols || ltb most_symbols o.symbols || ltb deepest o.depth

-- "weight outside its limits"
unfoldable pub weight_outside : Opening → Bool
weight_outside o = ltb most_weight o.weight

-- "reservation 0 or above K"
unfoldable pub zero_or_above_k : Spare → Opening → Bool
zero_or_above_k S o = eqb o.reserve 0 || ltb S.size o.reserve

-- "reservation above the room left"
unfoldable pub above_room_left : Spare → Opening → Bool
above_room_left S o = ltb S.free o.reserve

-- the table of an opening
unfoldable pub opening_table : {State : Type 0} → Spare → ℕ → Desk State → Opening → List Line
opening_table S d D o =
    2 when no_such_desk d
    ∷ 3 when is_opened D
    ∷ 5 when outside_limits o
    ∷ 20 when weight_outside o
    ∷ 6 when zero_or_above_k S o
    ∷ 7 when above_room_left S o
    ∷ []

-- the table of a closing
unfoldable pub closing_table : {State : Type 0} → ℕ → Desk State → List Line
closing_table d D =
    2 when no_such_desk d
    ∷ 4 when not (is_opened D)
    ∷ []

module _ (R : Rules) where
  -- an ask's own lines, where there is a sitting to judge by
  unfoldable pub own_lines : Desk R.State → R.Ask → List Line
  own_lines closed q = []
  own_lines (opened o s) q = R.lines o s q

  -- the table of an ask
  unfoldable pub asking_table : ℕ → Desk R.State → R.Ask → List Line
  asking_table d D q =
      2 when no_such_desk d
      ∷ 4 when not (is_opened D)
      ∷ own_lines D q

  -- what a caller may want at a desk
  pub data Act : Type 0 where
    opening : Opening → Act
    asking : R.Ask → Act
    closing : Act

  -- a call: an act at a desk, or the room question
  pub data Call : Type 0 where
    at_desk : ℕ → Act → Call
    room_question : Call

  -- the table of an act at desk d, which is now D
  unfoldable pub table_at : Spare → ℕ → Desk R.State → Act → List Line
  table_at S d D (opening o) = opening_table S d D o
  table_at S d D (asking q) = asking_table d D q
  table_at S d D closing = closing_table d D

  -- the table of a call; of the room question "only refusal 1 applies to it"
  unfoldable pub table_of : Room R.State → Call → List Line
  table_of ρ (at_desk d a) = table_at (spare ρ) d (ρ.at d) a
  table_of ρ room_question = []

  -- ---- what a call answers

  -- what an accepted act answers (an ask at a closed desk never is)
  unfoldable pub answer_at : Desk R.State → Act → R.Answer
  answer_at D (opening o) = R.done
  answer_at closed (asking q) = R.done
  answer_at (opened o s) (asking q) = R.answer o s q
  answer_at D closing = R.done

  -- what an accepted call answers
  unfoldable pub answer_of : Room R.State → Call → R.Answer
  answer_of ρ (at_desk d a) = answer_at (ρ.at d) a
  answer_of ρ room_question = R.room (left ρ)

  -- what a call answers in a room
  unfoldable pub verdict : Room R.State → Call → Outcome R.Answer
  verdict ρ c = verdict_of (table_of ρ c) (answer_of ρ c)

  -- ---- what a call leaves

  -- a desk after an accepted act (where an act is never accepted, the desk as it was)
  unfoldable pub moved : Desk R.State → Act → Desk R.State
  moved closed (opening p) = opened p (R.fresh p)
  moved closed (asking q) = closed
  moved closed closing = closed
  moved (opened o s) (opening p) = opened o s
  moved (opened o s) (asking q) = opened o (R.next o s q)
  moved (opened o s) closing = closed

  -- the room after an accepted call: its desk alone changes
  unfoldable pub shift : Room R.State → Call → Room R.State
  shift ρ (at_desk d a) = record { made = ρ.made; at = put ρ.at d (moved (ρ.at d) a) }
  shift ρ room_question = ρ

  -- the room after a call
  unfoldable pub move : Room R.State → Call → Room R.State
  move ρ c = settle (verdict ρ c) ρ (shift ρ c)
