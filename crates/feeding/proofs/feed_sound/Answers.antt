-- `feeding::feed_sound` meets its contract: one line of the table after the other. Assumes nothing.
use mathlib.Core.Path.{◌≡◌}
use native.Mathlib.Omega.{arith}
use Rattle.std.proofs.lemmas.Result.{err_from_is_err_and}
use Rattle.contexts.specs.Sitting.{sample_of}
use Rattle.store.specs.Layout.{field, size_at}
use Rattle.store.proofs.Passing.{header_long}
use Rattle.calls.proofs.Keeping.{moves_stopped}
use Rattle.records.proofs.Samples.{few_samples}
use Rattle.feeding.proofs.Refusing.{refused_sample, refused_symbol, refused_full, judged}
use Rattle.feeding.proofs.feed_sound.Goals as goal

pub returns-in_err-at : goal.returns-in_err-at
returns-in_err-at c =
    let p = err_from_is_err_and c.from_residual.result c.from_residual.ensures.1 in
    rw (p.1, p.2) (moves_stopped _ _ _ (c.in_err-at.ensures.asks _))

pub returns-in_default : goal.returns-in_default
returns-in_default c =
    let x = c.args in
    refused_sample x.store.now c.requires x.desk x.sample x.symbol c.in_ok-at.ensures.at_open c.in_default.ensures.1

pub invariant_of-numbers : goal.invariant_of-numbers
invariant_of-numbers c =
    let found = c.in_ok-at.ensures in
    record { there = (header_long c.args.store.now c.requires, omega (arith, found.number, found.at_open.desk)) }

pub returns-then-symbols-symbol : goal.returns-then-symbols-symbol
returns-then-symbols-symbol c =
    let x = c.args in
    let found = c.in_ok-at.ensures in
    let A : c.symbols.result ≡ field x.store.now x.desk 1 = rw found.number at c.symbols.ensures in
    refused_symbol x.store.now c.requires x.desk x.sample x.symbol found.at_open (few_samples c.in-Ok.which x.sample c.in-Ok.ensures) _ A c.if-symbols-symbol.true

pub returns-then-size-ge-LONGEST : goal.returns-then-size-ge-LONGEST
returns-then-size-ge-LONGEST c =
    let x = c.args in
    let found = c.in_ok-at.ensures in
    let few = few_samples c.in-Ok.which x.sample c.in-Ok.ensures in
    let A : c.symbols.result ≡ field x.store.now x.desk 1 = rw found.number at c.symbols.ensures in
    let n : c.size.result ≡ size_at x.store.now x.desk (sample_of x.sample) = rw (found.number, c.in-Ok.ensures) at c.size.ensures in
    refused_full x.store.now c.requires x.desk x.sample x.symbol found.at_open few _ A c.if-symbols-symbol.false _ n c.if-size-ge-LONGEST.true

pub feed_judged-requires : goal.feed_judged-requires
feed_judged-requires c =
    let x = c.args in
    let found = c.in_ok-at.ensures in
    let few = few_samples c.in-Ok.which x.sample c.in-Ok.ensures in
    let A : c.symbols.result ≡ field x.store.now x.desk 1 = rw found.number at c.symbols.ensures in
    let n : c.size.result ≡ size_at x.store.now x.desk (sample_of x.sample) = rw (found.number, c.in-Ok.ensures) at c.size.ensures in
    rw c.in-Ok.ensures (judged x.store.now c.requires x.desk x.sample x.symbol found.at_open few _ A c.if-symbols-symbol.false _ n c.if-size-ge-LONGEST.false)

pub returns : goal.returns
returns c = rw c.in-Ok.ensures at c.feed_judged.ensures
