-- `estimate::added` meets its contract: each of the eight sums fits, since each count is at most its sample's sum. Assumes nothing.
use Rattle.std.proofs.Common.{◌≢◌, ◌<◌, length, arith, sym, ◌∙◌, below_more, get_or-set_same, get_or-set_other}
use lib.ListN.{length-set}
use lib.Seq.{ext_get_or}
use Rattle.numbers.specs.Limits.{most_symbols}
use Rattle.numbers.proofs.Sums.{sum_part}
use Rattle.contexts.specs.Sitting.{first, second, eight, count_in}
use Rattle.contexts.proofs.Tables.{eight_at}
use Rattle.estimate.specs.Trees.{shared}
use Rattle.estimate.specs.Table.{counts_in}
use Rattle.estimate.proofs.added.Goals as goal

pub overflow_add-both : goal.overflow_add-both
overflow_add-both c =
    let count = count_in c.args.counts in
    let a = c.loop-a.a in
    omega (arith, sum_part most_symbols (count first) a c.loop-a-test.true, sum_part most_symbols (count second) a c.loop-a-test.true, c.loop-a.invariant.rest a (omega arith), c.requires)

pub loop-a-preserved : goal.loop-a-preserved
loop-a-preserved c =
    let i = c.loop-a.invariant in
    let a = c.loop-a.a in
    let inside : a < length c.loop-a.both = omega arith in
    record {
      long = length-set c.loop-a.both a _ ∙ i.long;
      done = below_more _ _ (λ b l. let ne : b ≢ a = omega arith in rw get_or-set_other (i.done b l)) (rw get_or-set_same (rw (i.rest a (omega arith))));
      rest = λ b l. let ne : b ≢ a = omega arith in rw get_or-set_other (i.rest b (omega arith));
    }

pub returns : goal.returns
returns c =
    let i = c.loop-a.invariant in
    let both = counts_in c.args.counts shared in
    ext_get_or 0 c.loop-a.both (eight both) i.long (λ a l. i.done a (omega arith) ∙ sym (eight_at both a (omega arith)))
