-- `soundness::record_ok` meets its contract: each way by the first test that fails. Assumes nothing.
use mathlib.Core.Path.{sym, ◌∙◌}
use native.Mathlib.Omega.{arith}
use Rattle.std.proofs.lemmas.Bool.Decides.{nat_tests}
use Rattle.std.proofs.lemmas.Grind.{common_steps}
use Rattle.numbers.proofs.Tests.{of_true}
use Rattle.records.specs.Records.{key}
use Rattle.store.specs.Walk.{own_ok, step_ok}
use Rattle.store.proofs.Walking.{KeyFitting, key_fitting}
use Rattle.soundness.proofs.record_ok.Goals.{Then-key_fits}
use Rattle.soundness.proofs.record_ok.Goals as goal

-- what a key that fits tells
good : (c : Then-key_fits) → KeyFitting c.args.header.store.now (key c.args.held.now)
good c = key_fitting _ _ (of_true _ (sym c.key_fits.ensures ∙ c.if-key_fits.true))

pub table_ok-requires : goal.table_ok-requires
table_ok-requires c = ((good (goal.at.table_ok-requires c).Then-key_fits).desk, c.requires)

pub up_mark-up-requires : goal.up_mark-up-requires
up_mark-up-requires c = omega (arith, (good (goal.at.up_mark-up-requires c).Then-key_fits).desk)

pub returns-then-table_ok : goal.returns-then-table_ok
unfolding step_ok own_ok
returns-then-table_ok c = let given = c.requires in grind (arith, nat_tests, common_steps)

pub returns : goal.returns
unfolding step_ok own_ok
returns c = let given = c.requires in grind (arith, nat_tests, common_steps)
