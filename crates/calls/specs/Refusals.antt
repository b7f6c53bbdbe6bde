-- The documents' number of each refusal, and what each answer of the code says in the room's machine. Assumes nothing.
use Rattle.std.specs.Prelude.{ℕ, ◌*◌, List, drop, Result, Ok, Err}
use Rattle.replay.specs.Table.{Outcome, refused, answered}
use Rattle.numbers.specs.Limits.{row_width}
use Rattle.rows.specs.Rows.{read_rows}
use Rattle.rules.specs.Rules.{Answer, done, contexts_left, reported, point}
use Rattle.calls.specs.declared.Refusal.{Refusal}
use Rattle.calls.specs.declared.Refusal.TheVariants.{Unsound, NoSuchDesk, AlreadyOpen, NotOpen, OutsideLimits, BadReservation, NoRoom, NotOfSitting, SampleFull, PastReservation, SampleEmpty, SheetShort, WeightOutside, SampleShort}
use Rattle.calls.specs.declared.Reported.{Reported}
use Rattle.chart.specs.declared.Chart.{Chart}

abbrev pub refusal_number : Refusal → ℕ
refusal_number Unsound = 1
refusal_number NoSuchDesk = 2
refusal_number AlreadyOpen = 3
refusal_number NotOpen = 4
refusal_number OutsideLimits = 5
refusal_number BadReservation = 6
refusal_number NoRoom = 7
refusal_number NotOfSitting = 8
refusal_number SampleFull = 9
refusal_number PastReservation = 10
refusal_number SampleEmpty = 11
refusal_number SheetShort = 12
refusal_number WeightOutside = 20
refusal_number SampleShort = 24

-- "answers only that it was done", or the refusal's number alone; of a run of feeds: done with the whole sample, or the refusal that the next feed got
abbrev pub outcome_of : Result (Unit {0}) Refusal → Outcome Answer
outcome_of (Ok u) = answered done
outcome_of (Err why) = refused (refusal_number why)

abbrev pub room_of : Result ℕ Refusal → Outcome Answer
room_of (Ok n) = answered (contexts_left n)
room_of (Err why) = refused (refusal_number why)

-- a report's rows are those read from the sheet that it leaves, from row `place` on
abbrev pub written_of : Result Reported Refusal → ℕ → List ℕ → Outcome Answer
written_of (Ok r) place sheet = answered (reported (record { rows = read_rows r.rows (drop (row_width * place) sheet); score = r.score }))
written_of (Err why) place sheet = refused (refusal_number why)

-- "The answer is one of: neither sample saw the context; only the first .."
abbrev pub charted_of : Result Chart Refusal → Outcome Answer
charted_of (Ok chart) = answered (point chart)
charted_of (Err why) = refused (refusal_number why)
