-- `feeding::feed_run` meets its contract: after `done` accepted feeds what is left of the run decides. Assumes nothing.
use Rattle.calls.proofs.Running.{Ran}
use Rattle.feeding.proofs.feed_run.Given as goal

abbrev pub invariant-loop-done : goal.invariant-loop-done
invariant-loop-done l = Ran l.initial.store l.desk l.sample l.symbols l.store l.done
