-- `listing::Listing::mark_of` meets its contract. Assumes nothing.
use mathlib.Core.Path.{sym, ◌∙◌}
use native.Mathlib.Omega.{arith}
use Rattle.numbers.proofs.Tests.{of_true}
use Rattle.records.specs.Records.{records}
use Rattle.records.specs.Held.{held}
use Rattle.weighing.proofs.Visiting.{held_there}
use Rattle.listing.proofs.Listing.mark_of.Goals as goal

pub bounds-self-at : goal.bounds-self-at
bounds-self-at c =
    let x = c.args.self.now in
    let p = c.place_of-at in
    let on = of_true (held c.args.key (records x.held.n x.held.numbers.now)) (sym c.stands.ensures ∙ c.if-stands.true) in
    omega (arith, (held_there c.args.key x.held.n p.result x.held.numbers.now x.held.standing.rising p.ensures.at on).0, x.readable.beside)
