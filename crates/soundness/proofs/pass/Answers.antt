-- `soundness::pass` meets its contract. The invariant is `Turn`: the records before have passed, with their marks and tally. Assumes nothing.
use mathlib.Core.Path.{◌≡◌, sym, ap, ◌∙◌}
use mathlib.Core.List.{List, []}
use Prim.Native.Nat.{ℕ, ◌<◌}
use native.Mathlib.Omega.{arith}
use lib.ListN.{length, get_or, take}
use Rattle.numbers.proofs.Tests.{of_true}
use Rattle.numbers.specs.Limits.{desks}
use Rattle.contexts.specs.Keys.{desk_of}
use Rattle.records.specs.Records.{width, records, key}
use Rattle.records.proofs.Parts.{length_parts, parts_chunked}
use Rattle.store.specs.Walk.{seen_mark}
use Rattle.store.proofs.Walking.{step_desk}
use Rattle.soundness.proofs.Turn.{turn_start, turn_next, turn_bad, turn_end}
use Rattle.soundness.proofs.pass.Goals.{After-as_chunks, In-loop-held, Else-not-record_ok}
use Rattle.soundness.proofs.pass.Goals as goal

-- the records that are gone over, and the one whose turn it is
cut : (c : After-as_chunks) → take c.args.many c.as_chunks.result.0.now ≡ records c.args.many c.args.body.now
cut c =
    ap (take c.args.many) c.as_chunks.ensures.front ∙ parts_chunked width c.args.many _ c.args.body.now (omega arith)

-- a record that passes has a desk
passed : (c : Else-not-record_ok) → desk_of (key (get_or (take c.args.many c.as_chunks.result.0.now) c.loop-held.held-index [])) < desks
passed c = step_desk _ _ _ _ _ (of_true _ (sym c.record_ok.ensures ∙ c.if-not-record_ok.false))

pub loop-held-init : goal.loop-held-init
loop-held-init c = turn_start _ _ _ (omega arith) (omega arith) (omega arith)

pub mark-requires : goal.mark-requires
mark-requires c = omega (arith, passed (goal.at.mark-requires c).Else-not-record_ok)

pub mark-requires-in-loop-held : goal.mark-requires-in-loop-held
mark-requires-in-loop-held c = omega (arith, passed (goal.at.mark-requires-in-loop-held c).Else-not-record_ok)

pub bounds-tally-desk : goal.bounds-tally-desk
bounds-tally-desk c = omega (arith, passed (goal.at.bounds-tally-desk c).Else-not-record_ok)

pub bounds-tally-desk-in-loop-held : goal.bounds-tally-desk-in-loop-held
bounds-tally-desk-in-loop-held c = omega (arith, passed (goal.at.bounds-tally-desk-in-loop-held c).Else-not-record_ok)

pub overflow_add-lo : goal.overflow_add-lo
overflow_add-lo c = omega (arith, passed (goal.at.overflow_add-lo c).Else-not-record_ok)

pub loop-held-preserved : goal.loop-held-preserved
loop-held-preserved c =
    let args = c.args in
    let loop = c.loop-held in
    let rs = take args.many c.as_chunks.result.0.now in
    let r = get_or rs loop.held-index [] in
    let all = cut (goal.at.loop-held-preserved c).After-as_chunks in
    turn_next args.header.store.now args.body.now args.many loop.p loop.q loop.tally loop.lo loop.held-index loop.invariant
    (omega (arith, ap length all, length_parts width args.many args.body.now)) r
    (ap (λ (l : List (List ℕ)). get_or l loop.held-index []) all) (sym c.record_ok.ensures ∙ c.if-not-record_ok.false) c.mark.result c.mark-in-loop-held.result
    (c.mark.ensures ∙ ap (seen_mark (key r)) c.total-x.ensures.0) (c.mark-in-loop-held.ensures ∙ ap (seen_mark (key r)) c.total-y.ensures.0)

pub returns-then-not-record_ok : goal.returns-then-not-record_ok
returns-then-not-record_ok c =
    let args = c.args in
    let loop = c.loop-held in
    let rs = take args.many c.as_chunks.result.0.now in
    let all = cut (goal.at.returns-then-not-record_ok c).After-as_chunks in
    turn_bad args.header.store.now args.body.now args.many loop.p loop.q loop.tally loop.lo loop.held-index loop.invariant
    (omega (arith, ap length all, length_parts width args.many args.body.now)) (get_or rs loop.held-index [])
    (ap (λ (l : List (List ℕ)). get_or l loop.held-index []) all) (sym c.record_ok.ensures ∙ c.if-not-record_ok.true)

pub returns : goal.returns
returns c =
    let args = c.args in
    let loop = c.loop-held in
    let all = cut (goal.at.returns c).After-as_chunks in
    c.desks_ok.ensures ∙ turn_end args.header.store.now args.body.now args.many loop.p loop.q loop.tally loop.lo loop.held-index loop.invariant
    (omega (arith, ap length all, length_parts width args.many args.body.now))
