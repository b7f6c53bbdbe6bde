-- `desks::open_reserving` meets its contract: one law of Granting for each way through it. Assumes nothing.
use native.Mathlib.Omega.{arith}
use Prim.Native.Nat.{◌≤◌}
use Rattle.replay.specs.Machine.{at_desk, opening}
use Rattle.store.specs.Meaning.{meaning}
use Rattle.store.proofs.Passing.{header_long}
use Rattle.calls.proofs.Keeping.{moves_refused}
use Rattle.changes.proofs.Granting.{zero_reserved, above_room, above_left}
use Rattle.changes.proofs.Vacant.{ready_there, room_made_lem}
use Rattle.changes.proofs.Beginning.{opened_moves}
use Rattle.desks.specs.Named.{naming_of}
use Rattle.desks.proofs.open_reserving.Goals as goal
use Rattle.desks.proofs.open_reserving.Goals.{then-named-eq0-via-then-named-eq0, then-named-eq0-via-else-named-eq0+then-store-named}

pub bounds-store-0 : goal.bounds-store-0
bounds-store-0 c = omega (arith, header_long c.args.store.now c.requires.sound)

pub returns-then-named-eq0 : goal.returns-then-named-eq0
returns-then-named-eq0 c =
    let x = c.args in
    let p = c.requires in
    let o = naming_of x.named in
    let ready = ready_there x.store.now x.desk o p in
    moves_refused x.store.now (at_desk x.desk (opening o)) 6 p.sound
    (elim c.then-named-eq0.branch [
      | then-named-eq0-via-then-named-eq0 w ↦ zero_reserved (meaning x.store.now) x.desk o ready w.if-named-eq0.true
      | then-named-eq0-via-else-named-eq0+then-store-named w ↦
          let some : 1 ≤ o.reserve = let n = w.if-named-eq0.false in omega arith in
          above_room (meaning x.store.now) x.desk o ready some (rw (room_made_lem x.store.now) w.if-store-named.true)
    ])

pub returns-then-free-named : goal.returns-then-free-named
returns-then-free-named c =
    let x = c.args in
    let p = c.requires in
    let o = naming_of x.named in
    let some : 1 ≤ o.reserve = let n = c.if-named-eq0.false in omega arith in
    moves_refused x.store.now (at_desk x.desk (opening o)) 7 p.sound
    (above_left (meaning x.store.now) x.desk o (ready_there x.store.now x.desk o p) some (rw (room_made_lem x.store.now) c.if-store-named.false) (rw (← c.left_in-free.ensures) c.if-free-named.true))

pub set_up-requires : goal.set_up-requires
set_up-requires c = (header_long c.args.store.now c.requires.sound, c.requires.desk)

pub returns : goal.returns
returns c =
    let x = c.args in
    let p = c.requires in
    let o = naming_of x.named in
    opened_moves x.store.now c.set_up.new.store x.desk o p.sound p.shut
    (record {
      ready = ready_there x.store.now x.desk o p;
      some = let n = c.if-named-eq0.false in omega arith;
      in_room = rw (room_made_lem x.store.now) c.if-store-named.false;
      fits = rw (← c.left_in-free.ensures) c.if-free-named.false;
    }) c.set_up.ensures
