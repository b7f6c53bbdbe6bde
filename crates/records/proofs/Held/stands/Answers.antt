-- `Held::stands` meets its contract: the key at its place decides. Assumes nothing.
use mathlib.Core.Path.{sym, ◌∙◌}
use native.Mathlib.Omega.{arith}
use borrow.Author.Tests.{le-ltb}
use Rattle.records.proofs.Ranked.{held_tested, held_lost}
use Rattle.records.proofs.Held.stands.Goals as goal

pub returns-then-at-self : goal.returns-then-at-self
returns-then-at-self c =
    let x = c.args in
    held_tested x.key x.self.n x.at x.self.numbers.now x.self.standing.rising c.requires.at c.if-at-self.true

pub returns-else-at-self : goal.returns-else-at-self
returns-else-at-self c =
    let x = c.args in
    le-ltb x.at x.self.n c.if-at-self.false ∙ sym (held_lost x.key x.self.n x.at x.self.numbers.now x.self.standing.rising c.requires.at (λ h e. omega arith))
