-- `charting::eights_of` meets its contract: a symbol with so many more recent ones is the oldest of a context that is one longer. Assumes nothing.
use Rattle.std.proofs.Common.{rules, arith, ◌≡◌, ℕ, ◌-◌, ◌+◌, ◌^◌, ap, ◌∙◌}
use Rattle.contexts.specs.Keys.{eights}
use Rattle.charting.proofs.eights_of.Goals as goal

pub returns : goal.returns
unfolding eights
returns c =
    let e : 7 - (c.args.newer + 1) ≡ 6 - c.args.newer = omega arith in
    c.eights_of.ensures.power ∙ ap (λ (n : ℕ). 8 ^ n) e
