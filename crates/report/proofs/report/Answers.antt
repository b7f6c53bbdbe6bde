-- `report::report` meets its contract: each return is a way through the table. Assumes nothing.
use Rattle.std.proofs.Common.{sym, ap, ◌∙◌}
use mathlib.Core.Logic.{inl, inr}
use Rattle.store.proofs.Passing.{header_long}
use Rattle.weighing.specs.declared.Desk.{Desk}
use Rattle.report.proofs.Refusing.{told_first, told_second, told_first_short, told_second_short}
use Rattle.report.proofs.report.Goals as goal

pub invariant_of-desk_in : goal.invariant_of-desk_in
invariant_of-desk_in c =
    let found = c.in_ok-open_desk.ensures in
    record { there = (header_long c.args.store.now found.sound, found.at_open.desk) }

pub returns-then-at-eq0 : goal.returns-then-at-eq0
returns-then-at-eq0 c =
    let x = c.args in
    let found = c.in_ok-open_desk.ensures in
    let k = c.desk_in-at.ensures in
    elim c.then-at-eq0.either [
      | inl none ↦ told_first x.store.now x.desk x.place x.sheet.now found.sound found.at_open (ap (λ (d : Desk). d.n) (sym k) ∙ none)
      | inr none ↦
          told_second x.store.now x.desk x.place x.sheet.now found.sound found.at_open (λ e. none.0 (ap (λ (d : Desk). d.n) k ∙ e)) (ap (λ (d : Desk). d.m) (sym k) ∙ none.1)
    ]

pub returns-then-at : goal.returns-then-at
returns-then-at c =
    let x = c.args in
    let found = c.in_ok-open_desk.ensures in
    let k = c.desk_in-at in
    elim c.then-at.either [
      | inl short ↦ told_first_short x.store.now x.desk x.place x.sheet.now found.sound found.at_open k.result k.ensures c.if-at-eq0-2.false c.if-at-eq0.false short
      | inr short ↦ told_second_short x.store.now x.desk x.place x.sheet.now found.sound found.at_open k.result k.ensures c.if-at-eq0-2.false short.0 short.1
    ]
