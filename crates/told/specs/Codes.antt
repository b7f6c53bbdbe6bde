-- The number that C gets for an answer: 0 where the call was accepted, or its refusal's. Assumes nothing.
use Rattle.std.specs.Prelude.{ℕ}
use Rattle.replay.specs.Table.{Outcome, refused, answered}
use Rattle.sitting_file.specs.Format.{refusal_number}
use Rattle.sitting_file.specs.Format.{Reading}
use Rattle.std.specs.Prelude.{Ok, Err}

abbrev pub told_as : {Answer : Type 0} → Outcome Answer → ℕ
told_as (answered x) = 0
told_as (refused n) = n

-- of a file that was read
abbrev pub read_code : Reading → ℕ
read_code (Ok shape) = 0
read_code (Err why) = refusal_number why
