-- `entering::held_by` meets its contract: the desk's records lie between two places. Assumes nothing.
use mathlib.Core.Path.{◌≡◌}
use Prim.Native.Nat.{◌+◌, ◌-◌, ◌*◌, ◌≤◌}
use native.Mathlib.Omega.{arith}
use lib.ListN.{length}
use Rattle.contexts.specs.Keys.{desk_span}
use Rattle.records.specs.Records.{records, keys}
use Rattle.records.specs.Held.{keep, of_desk}
use Rattle.records.proofs.Rising.{rank_same}
use Rattle.entering.proofs.Asking.{desk_many}
use Rattle.entering.proofs.held_by.Goals as goal
use Rattle.entering.proofs.held_by.Goals.{After-place_from}

many : (c : After-place_from) → (let x = c.args in
    (x.first ≤ c.place_from.result) × (c.place_from.result - x.first ≡ length (keep (of_desk x.desk) (records x.held.n x.held.numbers.now))))
many c =
    let x = c.args in
    let next = rank_same _ ((x.desk + 1) * desk_span) (keys (records x.held.n x.held.numbers.now)) c.place_from.result c.place_from.ensures.at (omega arith) in
    desk_many x.desk x.held.n x.held.numbers.now x.first c.place_from.result c.requires.standing c.requires.begin next

pub place_from-requires : goal.place_from-requires
place_from-requires c =
    let x = c.args in
    let past : x.desk * desk_span + desk_span ≡ (x.desk + 1) * desk_span = omega arith in
    record { standing = x.held.standing; no_later = rw past c.requires.no_later }

pub overflow_sub-result : goal.overflow_sub-result
overflow_sub-result c = (many c).0

pub returns : goal.returns
returns c = (many c).1
