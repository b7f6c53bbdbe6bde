-- `answering::feed_file` meets its contract: the two parts lent are the file's samples. Assumes nothing.
use Prim.Native.Nat.{◌+◌, ◌≤◌}
use native.Mathlib.Omega.{arith}
use lib.ListN.{length}
use Rattle.sitting_file.proofs.AcceptedFile.{accepted_holds}
use Rattle.judgement.proofs.Seating.{file_fed}
use Rattle.answering.proofs.feed_file.Goals as goal
use Rattle.answering.proofs.feed_file.Goals.{Start}

-- the file is as long as its samples
enough : (s : Start) → s.args.shape.first + s.args.shape.second ≤ length s.args.file.now
enough s = (accepted_holds s.args.file.now s.args.shape s.requires.0).enough

pub overflow_sub-from : goal.overflow_sub-from
overflow_sub-from c = enough (goal.at.overflow_sub-from c).Start

pub slice_bounds-first-end : goal.slice_bounds-first-end
slice_bounds-first-end c = omega (arith, enough (goal.at.slice_bounds-first-end c).Start)

pub slice_bounds-second-count : goal.slice_bounds-second-count
slice_bounds-second-count c = omega (arith, enough (goal.at.slice_bounds-second-count c).Start)

pub slice_bounds-second-start : goal.slice_bounds-second-start
slice_bounds-second-start c = omega (arith, enough (goal.at.slice_bounds-second-start c).Start)

pub returns : goal.returns
returns c =
    file_fed c.args.file.now c.args.shape _ _ _ c.requires.1 c.feed_both.ensures
