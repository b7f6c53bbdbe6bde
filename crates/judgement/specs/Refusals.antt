-- Why the program refuses, and by which number. Assumes nothing.
use Rattle.std.specs.Prelude.{ℕ, Result, Ok, Err}
use Rattle.calls.specs.Refusals.{refusal_number}
use Rattle.sitting_file.specs.Format as format
use Rattle.printing.specs.declared.Head.{Head}
use Rattle.judgement.specs.declared.Refusal.{Refusal}
use Rattle.judgement.specs.declared.Refusal.TheVariants.{File, Call}

-- the documents' number of a refusal: the reader's, or the call's
abbrev pub refusal_told : Refusal → ℕ
refusal_told (File why) = format.refusal_number why
refusal_told (Call why) = refusal_number why

-- the code's answer as the judgement tells it, with a refusal's number
abbrev pub numbered : Result Head Refusal → Result Head ℕ
numbered (Ok head) = Ok head
numbered (Err why) = Err (refusal_told why)
