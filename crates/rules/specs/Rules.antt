-- The room's machine as document 01 has it: what is asked at an open desk, answered there, and what stands after. Assumes nothing.
use Rattle.std.specs.Prelude.{ℕ, List}
use Rattle.contexts.specs.Sitting.{Progress, sat, sample_of}
use Rattle.chart.specs.declared.Chart.{Chart}
use Rattle.replay.specs.Room.{Opening}
use Rattle.replay.specs.Table.{Line}
use Rattle.replay.specs.Machine.{Rules}
use Rattle.rules.specs.Feed.{empty_progress, after_feed, feed_lines}
use Rattle.rules.specs.Report.{Reported, report, report_lines}
use Rattle.rules.specs.Question.{charted, chart_lines}

-- what is asked at an open desk, with all that the caller names
pub data Ask : Type 0 where
  -- a sample and a symbol
  feed : ℕ → ℕ → Ask
  -- how many numbers the sheet has, and the row place
  reporting : ℕ → ℕ → Ask
  -- a context's length and code, and a symbol
  charting : ℕ → ℕ → ℕ → Ask

-- what an accepted call answers
pub data Answer : Type 0 where
  done : Answer
  contexts_left : ℕ → Answer
  reported : Reported → Answer
  point : Chart → Answer

-- an ask's own refusals
unfoldable pub lines_of : Opening → Progress → Ask → List Line
lines_of o p (feed i a) = feed_lines o p i a
lines_of o p (reporting sheet place) = report_lines o p sheet place
lines_of o p (charting len code a) = chart_lines o len code a

-- what an accepted ask answers, and the sitting after it
unfoldable pub ask_answer : Opening → Progress → Ask → Answer
ask_answer o p (feed i a) = done
ask_answer o p (reporting sheet place) = reported (report (sat o.symbols o.depth o.weight p))
ask_answer o p (charting len code a) = point (charted o p len code a)

unfoldable pub next_of : Opening → Progress → Ask → Progress
next_of o p (feed i a) = after_feed o (sample_of i) a p
next_of o p (reporting sheet place) = p
next_of o p (charting len code a) = p

abbrev pub rules : Rules
rules = record { State = Progress; Ask = Ask; Answer = Answer; done = done; room = contexts_left; fresh = empty_progress; lines = lines_of; answer = ask_answer; next = next_of }
