-- The numbers of a store that was fed, and of one whose desk was closed, written out: such numbers there are. Assumes nothing.
use mathlib.Core.Path.{◌≡◌, refl, sym, ap, ◌∙◌}
use mathlib.Core.Bool.{true}
use mathlib.Core.List.{List, ◌++◌}
use Prim.Native.Nat.{ℕ, ◌+◌, ◌*◌, ◌≤◌, ◌<◌}
use native.Mathlib.Omega.{arith}
use lib.ListN.{length, take, drop, set, length-drop}
use Rattle.numbers.specs.Limits.{desks}
use Rattle.contexts.specs.Sitting.{Sample}
use Rattle.records.specs.Records.{width, records}
use Rattle.records.specs.Held.{without}
use Rattle.records.specs.Bumped.{Written}
use Rattle.records.proofs.Lent.{tail_lent}
use Rattle.recording.proofs.Desks.{wide_without, length_without}
use Rattle.store.specs.Layout.{header_size, room, used, desk_start, size_field, recent_field, records_in}
use Rattle.store.specs.Sound.{soundb}
use Rattle.store.proofs.Parts.{records_length}
use Rattle.store.proofs.Passing.{passed}
use Rattle.changes.specs.Changes.{Closed}
use Rattle.changes.specs.FedStore.{FedStore, Acceptable, recent_at, is_counted, records_fed}
use Rattle.changes.specs.Noted.{noted}
use Rattle.changes.proofs.Before.{wide}
use Rattle.changes.proofs.Whether.{wide_if}
use Rattle.changes.proofs.Filling.{room_enough}
use Rattle.changes.proofs.Flat.{in_front, front_written, front_long}
use Rattle.changes.proofs.Placing.{fed_store_lem}
use Rattle.changes.proofs.Removal.{lent, back, closed_now}

-- a store's numbers past its header
abbrev pub body : List ℕ → List ℕ
body s = drop header_size s

-- as many records as a sound store has room for stand in them
pub fits : (s : List ℕ) → soundb s ≡ true → (rs : List (List ℕ)) → length rs ≤ room s → width * length rs ≤ length (body s)
fits s h rs few = omega (arith, length-drop header_size s, (passed s h).framed.long)

-- ---- a feed

-- the header noted, and the records fed in the place of those before
abbrev pub fed_store : List ℕ → ℕ → Sample → ℕ → List ℕ
fed_store s d i a =
    noted (length (records_fed s d i a)) (desk_start d + size_field i) (desk_start d + recent_field i) a (take header_size s ++ in_front (records_fed s d i a) (body s))

pub fed_now : (s : List ℕ) (d : ℕ) (i : Sample) (a : ℕ) → Acceptable s d i a → FedStore s (fed_store s d i a) d i a
fed_now s d i a p =
    let whole = wide_if d i a (recent_at s d i) (is_counted s d i) (records_in s) (wide s p.sound) in
    fed_store_lem s d i a p (length (records_fed s d i a)) (in_front (records_fed s d i a) (body s))
    (front_long (records_fed s d i a) (body s) whole (fits s p.sound (records_fed s d i a) (room_enough s d i a p)))
    (front_written (records_fed s d i a) (body s) whole)

-- ---- a closing

-- the desk's mark taken away, and the other desks' records in the place of all
abbrev pub shut_store : List ℕ → ℕ → List ℕ
shut_store s d = set (set (back s (in_front (without d (records_in s)) (body s))) 1 (length (without d (records_in s)))) (desk_start d + 0) 0

pub shut_now : (s : List ℕ) (d : ℕ) → soundb s ≡ true → d < desks → Closed s (shut_store s d) d
unfolding records_in
shut_now s d h l =
    let rs = without d (records_in s) in
    let whole = wide_without d (records_in s) (wide s h) in
    let few : length rs ≤ room s = omega (arith, length_without d (records_in s), records_length s, (passed s h).framed.few) in
    let long : length (in_front rs (body s)) ≡ length (lent s) = front_long rs (body s) whole (fits s h rs few) ∙ sym (ap length (tail_lent header_size s)) in
    let there : Written (without d (records (used s) (lent s))) (length rs) (lent s) (in_front rs (body s)) = rw (tail_lent header_size s) (front_written rs (body s) whole) in
    closed_now s d h l (in_front rs (body s)) (length rs) long there (length rs) 0 refl refl
