-- `logarithm::log_past` meets its contract: L of the odd part and 1,024 for each two, or the squarings. Assumes nothing.
use mathlib.Core.Path.{sym, ap, ◌∙◌}
use native.Mathlib.Omega.{arith}
use Rattle.logarithm.specs.Logarithm.{L}
use Rattle.logarithm.proofs.Laws.{L_zero, L_top}
use Rattle.logarithm.proofs.Twos.{by_lent}
use Rattle.logarithm.proofs.log_past.Goals as goal

pub returns-then-n-eq0 : goal.returns-then-n-eq0
returns-then-n-eq0 c = sym (ap L c.if-n-eq0.true ∙ L_zero)

pub overflow_add-result : goal.overflow_add-result
overflow_add-result c =
    let e = by_lent c.args.logs.values.now c.args.n c.args.logs.are_logs c.if-n-eq0.false c.if-odd-logs.true in
    omega (arith, e, L_top c.args.n c.requires)

pub returns-then-odd-logs : goal.returns-then-odd-logs
returns-then-odd-logs c =
    by_lent c.args.logs.values.now c.args.n c.args.logs.are_logs c.if-n-eq0.false c.if-odd-logs.true
