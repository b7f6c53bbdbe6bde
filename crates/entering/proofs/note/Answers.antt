-- `entering::note` meets its contract. Assumes nothing.
use native.Mathlib.Omega.{arith}
use mathlib.Core.Path.{ap, ◌∙◌}
use lib.ListN.{length, length-set}
use lib.Seq.{get_or-set_other}
use Rattle.changes.proofs.Noting.{noted_back, noted_length}
use Rattle.entering.proofs.note.Goals as goal

pub bounds-store-size : goal.bounds-store-size
bounds-store-size c = let p = c.requires.0 in simp length-set (omega (arith, p.long, p.in_header, p.in_order))

pub overflow_add-store : goal.overflow_add-store
overflow_add-store c =
    let x = c.args in
    let p = c.requires in
    omega (arith, p.1, get_or-set_other x.store.now 1 x.size x.used 0 (λ e. omega (arith, p.0.past_used)))

pub bounds-store-size-2 : goal.bounds-store-size-2
bounds-store-size-2 c = let p = c.requires.0 in simp length-set (omega (arith, p.long, p.in_header, p.in_order))

pub slice_bounds-move_on-end : goal.slice_bounds-move_on-end
slice_bounds-move_on-end c = let p = c.requires.0 in simp length-set (omega (arith, p.long, p.in_header, p.in_order))

pub shape_of-store : goal.shape_of-store
shape_of-store c =
    let x = c.args in
    let moved = c.move_on in
    ap length (noted_back x.used x.size x.slots x.symbol x.store.now c.requires.0 moved.new.slots moved.ensures)
    ∙ noted_length x.used x.size x.slots x.symbol x.store.now c.requires.0

pub returns : goal.returns
returns c =
    let x = c.args in
    let moved = c.move_on in
    noted_back x.used x.size x.slots x.symbol x.store.now c.requires.0 moved.new.slots moved.ensures
