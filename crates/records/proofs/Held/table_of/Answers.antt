-- `Held::table_of` meets its contract: the record at the key's place, or a blank one. Assumes nothing.
use mathlib.Core.Path.{sym, ap, ◌∙◌}
use native.Mathlib.Omega.{arith}
use Rattle.records.specs.Records.{width, records}
use Rattle.records.specs.Held.{count_table}
use Rattle.records.proofs.Parts.{part_at}
use Rattle.records.proofs.Finding.{lookup_absent}
use Rattle.records.proofs.Ranked.{lookup_found, held_lost}
use Rattle.records.proofs.Held.table_of.Goals.{else-at-self-via-then-at-self+else-self-at, else-at-self-via-else-at-self}
use Rattle.records.proofs.Held.table_of.Goals as goal

pub returns-then-self-at : goal.returns-then-self-at
returns-then-self-at c =
    let x = c.args in
    let place = c.place_of-at in
    let inside = c.if-at-self.true in
    let found = lookup_found x.key x.self.n place.result x.self.numbers.now x.self.standing.rising inside c.if-self-at.true in
    c.counts_at.ensures ∙ ap count_table (sym (found ∙ part_at width x.self.n place.result x.self.numbers.now inside))

pub returns-else-at-self : goal.returns-else-at-self
returns-else-at-self c =
    let x = c.args in
    let place = c.place_of-at in
    let lost = held_lost x.key x.self.n place.result x.self.numbers.now x.self.standing.rising place.ensures.at (λ h. elim c.else-at-self.branch [
      | else-at-self-via-then-at-self+else-self-at w ↦ w.if-self-at.false
      | else-at-self-via-else-at-self w ↦ λ e. omega arith
    ]) in
    ap count_table (sym (lookup_absent x.key (records x.self.n x.self.numbers.now) lost))
