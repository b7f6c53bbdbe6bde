-- `Held::seek` meets its contract: the contexts that are shorter than `found` are held, at their places. Assumes nothing.
use mathlib.Core.Path.{sym, ◌∙◌}
use mathlib.Core.Path.{◌≡◌}
use Prim.Native.Nat.{◌+◌, ◌≤◌, ◌<◌}
use native.Mathlib.Omega.{arith}
use lib.ListN.{length}
use Rattle.numbers.specs.Limits.{most_symbols, deepest}
use Rattle.contexts.proofs.Strings.{context_length}
use Rattle.records.specs.Records.{records}
use Rattle.records.proofs.KeyWalk.{walk_start, walk_fits, walk_on}
use Rattle.records.proofs.Seeking.{passed_start, onward, located_here, located_all, passed_on}
use Rattle.records.proofs.Held.seek.Goals as goal

pub loop-found-init : goal.loop-found-init
loop-found-init c =
    let x = c.args in
    (walk_start x.desk x.recent.now, passed_start x.desk x.recent.now (records x.self.n x.self.numbers.now))

pub place_from-at-requires : goal.place_from-at-requires
place_from-at-requires c =
    let x = c.args in
    let at = c.loop-found in
    onward x.desk x.recent.now x.self.n x.self.numbers.now c.requires at.places at.key at.eights at.from at.found at.invariant.0 at.invariant.1 (omega arith)

pub bounds-places-found : goal.bounds-places-found
bounds-places-found c = omega (arith, context_length most_symbols deepest c.args.recent.now c.requires.context, c.loop-found.invariant.1.seven)

pub stands-requires : goal.stands-requires
stands-requires c = c.place_from-at.ensures

pub returns-then-not-stands : goal.returns-then-not-stands
returns-then-not-stands c =
    let x = c.args in
    let at = c.loop-found in
    let inside : at.found < length at.places = omega (arith, context_length most_symbols deepest c.args.recent.now c.requires.context, c.loop-found.invariant.1.seven) in
    located_here x.desk x.recent.now x.self.n x.self.numbers.now c.requires at.places at.key at.eights at.from at.found at.invariant.0 at.invariant.1 (omega arith)
    inside c.place_from-at.result c.place_from-at.ensures (sym c.stands.ensures ∙ c.if-not-stands.true)

pub longer-key-requires : goal.longer-key-requires
longer-key-requires c =
    let x = c.args in
    let at = c.loop-found in
    walk_fits x.desk x.recent.now c.requires.desk c.requires.context at.key at.eights at.found at.invariant.0

pub overflow_add-from : goal.overflow_add-from
overflow_add-from c =
    omega (arith, c.place_from-at.ensures.within, c.requires.standing.fits)

pub loop-found-preserved : goal.loop-found-preserved
loop-found-preserved c =
    let x = c.args in
    let at = c.loop-found in
    let inside : at.found < length at.places = omega (arith, context_length most_symbols deepest c.args.recent.now c.requires.context, c.loop-found.invariant.1.seven) in
    let on : at.found ≤ length x.recent.now = omega arith in (
      walk_on x.desk x.recent.now c.requires.desk c.requires.context at.key at.eights at.found at.invariant.0 c.longer-key.result on c.longer-key.ensures,
      passed_on x.desk x.recent.now x.self.n x.self.numbers.now c.requires at.places at.key at.eights at.from at.found at.invariant.0 at.invariant.1 on
          inside c.place_from-at.result c.place_from-at.ensures (sym c.stands.ensures ∙ c.if-not-stands.false),
    )

pub returns : goal.returns
returns c =
    let x = c.args in
    let at = c.loop-found in
    let all : at.found ≡ length x.recent.now + 1 = omega arith in
    rw all at (located_all x.desk x.recent.now x.self.n x.self.numbers.now c.requires at.places at.key at.eights at.from at.found at.invariant.0 at.invariant.1 (omega arith))
