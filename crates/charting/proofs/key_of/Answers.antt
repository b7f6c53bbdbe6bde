-- `charting::key_of` meets its contract: what has been read of the code stands in the key, and the rest decides. Assumes nothing.
use Prim.Native.Nat.{◌+◌, ◌*◌, ◌%◌, ◌<◌}
use native.Mathlib.Omega.{arith}
use Rattle.numbers.specs.Limits.{desks}
use Rattle.contexts.specs.Keys.{desk_span}
use Rattle.charting.proofs.CodeWalk.{unread_start, unread_on, unread_fits, unread_outside, unread_longer, unread_end}
use Rattle.charting.proofs.key_of.Goals as goal
use Rattle.charting.proofs.key_of.Goals.{After-eights_of}

pub loop-newer-init : goal.loop-newer-init
loop-newer-init c = unread_start _ _ _ _ c.requires.1

pub returns-then-symbols-digit : goal.returns-then-symbols-digit
returns-then-symbols-digit c = unread_outside _ _ _ _ c.requires.1 _ _ _ c.loop-newer.invariant c.loop-newer-test.true c.if-symbols-digit.true

-- the longer key fits, by the eights that was worked out
next_fits : (c : After-eights_of) → c.loop-newer.key + (c.loop-newer.rest % 8 * c.eights_of.result + 1) < desks * desk_span
next_fits c = rw c.eights_of.ensures (unread_fits _ _ _ _ c.requires.1 _ _ _ c.loop-newer.invariant c.loop-newer-test.true c.requires.0)

pub overflow_mul-key-in-loop-newer : goal.overflow_mul-key-in-loop-newer
overflow_mul-key-in-loop-newer c = omega (arith, next_fits c)

pub overflow_add-key : goal.overflow_add-key
overflow_add-key c = omega (arith, next_fits c)

pub overflow_add-key-in-loop-newer : goal.overflow_add-key-in-loop-newer
overflow_add-key-in-loop-newer c = omega (arith, next_fits c)

pub loop-newer-preserved : goal.loop-newer-preserved
loop-newer-preserved c =
    rw c.eights_of.ensures (unread_on _ _ _ _ c.requires.1 _ _ _ c.loop-newer.invariant c.loop-newer-test.true c.if-symbols-digit.false)

pub returns-then-rest-eq0 : goal.returns-then-rest-eq0
returns-then-rest-eq0 c = unread_end _ _ _ _ c.requires.1 _ _ _ c.loop-newer.invariant c.loop-newer-test.false c.if-rest-eq0.true

pub returns-else-rest-eq0 : goal.returns-else-rest-eq0
returns-else-rest-eq0 c = unread_longer _ _ _ _ c.requires.1 _ _ _ c.loop-newer.invariant c.loop-newer-test.false c.if-rest-eq0.false
