-- `weighing::weigh` meets its contract: it is the visit to the empty context, where that is held. Assumes nothing.
use mathlib.Core.Path.{refl, sym, ◌∙◌}
use native.Mathlib.Omega.{arith}
use Rattle.weighing.proofs.Visiting.{bare_small, answer_absent}
use Rattle.weighing.proofs.Whole.{root_ready, weighed}
use Rattle.weighing.proofs.weigh.Goals as goal
use Rattle.weighing.proofs.weigh.Goals.{then-stands, else-stands}

pub visit-w-requires : goal.visit-w-requires
visit-w-requires c =
    record { ready = root_ready c.requires.weighable c.place_of-at.ensures.at c.costs_of-costs.ensures; on = sym c.stands.ensures ∙ c.if-stands.true; beside = c.requires.beside }

pub as_leaf-w-requires : goal.as_leaf-w-requires
as_leaf-w-requires c =
    bare_small (root_ready c.requires.weighable c.place_of-at.ensures.at c.costs_of-costs.ensures)

pub returns : goal.returns
returns c =
    let w = c.requires.weighable in
    let at = c.place_of-at.ensures.at in
    elim c.if-stands.branch [
      | then-stands v ↦ weighed w at v.visit-w.ensures (omega (arith, v.visit-w.auto.kept, c.requires.beside)) v.visit-w.auto.kept v.kept-is v.w-is
      | else-stands v ↦
          weighed w at (answer_absent (root_ready w at c.costs_of-costs.ensures) (sym c.stands.ensures ∙ v.if-stands.false) c.args.kept.now v.as_leaf-w.ensures) c.requires.beside refl v.kept-is v.w-is
    ]
