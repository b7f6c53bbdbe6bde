-- What every call at a store promises, over the numbers before and after: one record for the calls that change the room, one for those that only
-- ask. Assumes nothing.
use Rattle.std.specs.Prelude.{ℕ, ◌+◌, ◌*◌, ◌≡◌, true, false, List, ◌++◌, length, take, drop}
use Rattle.replay.specs.Table.{Outcome, refused, answered}
use Rattle.replay.specs.Machine.{Call, at_desk, asking, verdict, move}
use Rattle.store.specs.Layout.{store_size, room}
use Rattle.store.specs.Sound.{soundb}
use Rattle.store.specs.Meaning.{meaning}
use Rattle.numbers.specs.Limits.{row_width}
use Rattle.rows.specs.Rows.{Row, sheet_of}
use Rattle.rules.specs.Report.{Reported}
use Rattle.rules.specs.Rules.{Answer, reporting, reported, rules}

-- an opening, a feed or a closing on the numbers `before`, which answers o and leaves `after`
pub record Moves (before : List ℕ) (c : Call rules) (o : Outcome Answer) (after : List ℕ) : Type 0 where
  -- "the lent store does not pass the soundness test"
  pub unsound : soundb before ≡ false → o ≡ refused 1
  -- otherwise the answer is the table's, and what the numbers stand for is moved as it says
  pub answers : soundb before ≡ true → o ≡ verdict rules (meaning before) c
  pub moves : soundb before ≡ true → meaning after ≡ move rules (meaning before) c
  -- "Every store reached by calls after making passes it."
  pub stays_sound : soundb before ≡ true → soundb after ≡ true
  -- "Every refusal .. store, sheet and other memory stay as before"
  pub refused_stays : (n : ℕ) → o ≡ refused n → after ≡ before
  -- "only the first that many are ever written"
  pub past_stays : drop (store_size (room before)) after ≡ drop (store_size (room before)) before
  pub length_stays : length after ≡ length before

-- a call that only reads the store
pub record Asks (store : List ℕ) (c : Call rules) (o : Outcome Answer) : Type 0 where
  pub unsound : soundb store ≡ false → o ≡ refused 1
  pub answers : soundb store ≡ true → o ≡ verdict rules (meaning store) c

-- the sheet with rows written from row `place` on: "every number outside those rows stays"
abbrev pub with_rows : ℕ → List Row → List ℕ → List ℕ
with_rows place rs sheet = take (row_width * place) sheet ++ (sheet_of rs ++ drop (row_width * (place + length rs)) sheet)

-- a report on desk d from row `place` on, which answers o and leaves the sheet as `after`
pub record Reports (store : List ℕ) (d place : ℕ) (o : Outcome Answer) (sheet after : List ℕ) : Type 0 where
  -- the store is only read, and the answer, rows and score, is the machine's
  pub asks : Asks store (at_desk d (asking (reporting (length sheet) place))) o
  -- "Rows go into the part of the sheet that starts at row p, and every number outside those rows stays."
  pub written : (x : Reported) → o ≡ answered (reported x) → after ≡ with_rows place x.rows sheet
  pub refused_stays : (n : ℕ) → o ≡ refused n → after ≡ sheet
