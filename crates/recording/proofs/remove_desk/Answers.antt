-- `recording::remove_desk` meets its contract: the desk's records lie between two places. Assumes nothing.
use mathlib.Core.Path.{◌≡◌}
use Prim.Native.Nat.{◌≤◌, ◌+◌, ◌*◌}
use native.Mathlib.Omega.{arith}
use Rattle.contexts.specs.Keys.{desk_span}
use Rattle.records.specs.Records.{records, keys}
use Rattle.records.specs.Held.{rank}
use Rattle.records.proofs.Rising.{rank_mono, rank_same}
use Rattle.recording.proofs.Removing.{removed}
use Rattle.recording.proofs.remove_desk.Goals.{After-place_of-next}
use Rattle.recording.proofs.remove_desk.Goals as goal

-- the place of the next desk's first key, which stands no earlier
next-at : (c : After-place_of-next) → (let x = c.args in
    c.place_of-next.result ≡ rank ((x.desk + 1) * desk_span) (keys (records x.n x.numbers.now)))
next-at c =
    let x = c.args in
    rank_same _ ((x.desk + 1) * desk_span) (keys (records x.n x.numbers.now)) c.place_of-next.result c.place_of-next.ensures.at (omega arith)

in_order : (c : After-place_of-next) → c.place_of-first.result ≤ c.place_of-next.result
in_order c =
    let x = c.args in
    let ks = keys (records x.n x.numbers.now) in
    let later = rank_mono (x.desk * desk_span) ((x.desk + 1) * desk_span) ks (omega arith) in
    let first : c.place_of-first.result ≡ rank (x.desk * desk_span) ks = c.place_of-first.ensures.at in
    omega (arith, next-at c)

pub overflow_sub-gone : goal.overflow_sub-gone
overflow_sub-gone c = in_order (goal.at.overflow_sub-gone c).After-place_of-next

pub returns : goal.returns
returns c =
    let x = c.args in
    let first = c.place_of-first in
    let next = c.place_of-next in
    let shifted = c.shift_down in
    removed x.desk x.n first.result next.result x.numbers.now c.requires.standing first.ensures.at (next-at (goal.at.returns c).After-place_of-next)
    (in_order (goal.at.returns c).After-place_of-next) next.ensures.within shifted.new.part shifted.ensures
