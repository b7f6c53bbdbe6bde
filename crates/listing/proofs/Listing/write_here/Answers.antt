-- `listing::Listing::write_here` meets its contract. Assumes nothing.
use mathlib.Core.Path.{◌≡◌, ap, ◌∙◌}
use Rattle.listing.specs.declared.Plan.{Plan}
use Rattle.listing.specs.Plans.{plan_by, plan_of}
use Rattle.listing.specs.Writing.{kept_plan}
use Rattle.listing.proofs.Decisions.{plan_in}
use Rattle.listing.proofs.Putting.{roomy_as, written_as}
use Rattle.listing.proofs.Listing.write_here.Goals as goal
use Rattle.listing.proofs.Listing.write_here.Goals.{After-plan_of-plan}

-- the plan is that of the kept decision
is : (c : After-plan_of-plan) → let k = c.args.self.now in c.plan_of-plan.result ≡ kept_plan k.held.n k.held.numbers.now k.kept.now k.costs c.args.spot
is c = let w = c.args.spot.way in c.plan_of-plan.ensures ∙ ap (plan_by w) c.from.ensures ∙ plan_in w _ ∙ ap (plan_of w) c.mark_of.ensures

pub put_here-requires : goal.put_here-requires
put_here-requires c =
    let x = c.args in
    let t = c.table_of-counts in
    roomy_as c.plan_of-plan.result _ x.len x.spot.code t.result _ (is (goal.at.put_here-requires c).After-plan_of-plan) t.ensures _ x.to c.requires

pub returns : goal.returns
returns c =
    let x = c.args in
    let t = c.table_of-counts in
    let g = c.put_here in
    let e = is (goal.at.returns c).After-plan_of-plan in
    record {
      way_is = ap (λ (q : Plan). q.next) e;
      written = written_as c.plan_of-plan.result _ x.len x.spot.code t.result _ e t.ensures x.sheet.now g.new.sheet x.to g.result g.ensures;
    }
