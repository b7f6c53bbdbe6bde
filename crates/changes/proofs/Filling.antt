-- There is room for the records that a feed adds: no desk passes its reservation, so all desks together do not pass K. Assumes nothing.
use mathlib.Core.Path.{◌≡◌, refl, sym, ◌∙◌, subst}
use mathlib.Core.Bool.{◌&&◌}
use mathlib.Core.List.{List, []}
use Prim.Native.Nat.{ℕ, ◌+◌, ◌≤◌, ◌<◌}
use native.Mathlib.Omega.{arith}
use lib.Dec.{T, eqb→eq}
use lib.ListN.{length, get_or}
use Rattle.numbers.specs.Limits.{desks}
use Rattle.numbers.specs.Sum.{sum}
use Rattle.numbers.proofs.Tests.{left, right, is_true}
use Rattle.numbers.proofs.Orders.{less, same, more, order}
use Rattle.numbers.proofs.Sums.{sum_mono}
use Rattle.contexts.specs.Keys.{desk_of}
use Rattle.contexts.specs.Sitting.{Sample}
use Rattle.contexts.proofs.KeyOrder.{Within}
use Rattle.records.specs.Records.{key}
use Rattle.records.specs.Held.{held, keep, of_desk}
use Rattle.records.proofs.Keeping.{held_keep}
use Rattle.records.proofs.Finding.{place_held}
use Rattle.recording.proofs.Desks.{length_desks}
use Rattle.store.specs.Layout.{room, used, is_open, reserve_at, records_in}
use Rattle.store.specs.Sound.{held_by, reserved_at}
use Rattle.store.specs.Plain.{Open}
use Rattle.store.proofs.Parts.{records_length}
use Rattle.store.proofs.Fitting.{open?}
use Rattle.store.proofs.Standing.{sound_stands}
use Rattle.changes.specs.FedStore.{Acceptable, recent_at, is_counted, missing_if, records_fed}
use Rattle.changes.proofs.Recent.{recent_within}
use Rattle.changes.proofs.Before.{rising}
use Rattle.changes.proofs.Whether.{length_if, desk_length_if, other_if}
use Rattle.changes.proofs.Owning.{Owned, owned_fed, owned_desk}
use Rattle.changes.proofs.Header.{same?}

module _ (s : List ℕ) (d : ℕ) (i : Sample) (a : ℕ) (p : Acceptable s d i a) where
  cr : Within (recent_at s d i)
  cr = recent_within s p.sound d p.at_open i

  owned_then : (k : ℕ) → T (held k (records_fed s d i a)) → Owned s k
  owned_then k h = owned_fed s p.sound d p.at_open i a k h

  pub held_within : (e : ℕ) → Open s e → held_by e (records_fed s d i a) ≤ reserve_at s e
  held_within e o =
      elim (same? e d) [
        | yes q ↦ rw (q, desk_length_if d i a (recent_at s d i) cr (is_counted s d i) (records_in s) (rising s p.sound)) p.reserved
        | no q ↦ rw (other_if d i a (recent_at s d i) cr (is_counted s d i) e (records_in s) (λ z. q (sym z))) ((sound_stands s p.sound).reserved_held e o)
      ]

  -- a desk's records are within its reservation, which is none where it is not open
  desk_within : (e : ℕ) → e < desks → length (keep (of_desk e) (records_fed s d i a)) ≤ reserved_at s e
  desk_within e l = elim (open? s e) [
    | yes o ↦ rw (is_true (is_open s e) o.opened) (held_within e o)
    | no n ↦ elim (order 0 (length (keep (of_desk e) (records_fed s d i a)))) [
      | less m ↦ absurd (n (stranger m))
      | same q ↦ omega arith
      | more m ↦ absurd (omega arith)
    ]
  ]
    where
      stranger : 0 < length (keep (of_desk e) (records_fed s d i a)) → Open s e
      stranger m =
          let k = key (get_or (keep (of_desk e) (records_fed s d i a)) 0 []) in
          let u : T (of_desk e k && held k (records_fed s d i a)) = rw (held_keep (of_desk e) k (records_fed s d i a)) at (place_held k 0 (keep (of_desk e) (records_fed s d i a)) m refl) in
          let w = owned_then k (right (of_desk e k) (held k (records_fed s d i a)) u) in
          let q : w.desk ≡ e = sym (owned_desk s p.sound k w) ∙ eqb→eq (desk_of k) e (left (of_desk e k) (held k (records_fed s d i a)) u) in
          subst (Open s) q w.at_open

  -- all records together
  pub room_enough : length (records_fed s d i a) ≤ room s
  room_enough =
      let rs = records_fed s d i a in
      let whole = length_desks desks rs (λ n l. let w = owned_then (key (get_or rs n [])) (place_held (key (get_or rs n [])) n rs l refl) in rw (owned_desk s p.sound (key (get_or rs n [])) w) w.at_open.desk) in
      let each : sum desks (λ e. length (keep (of_desk e) rs)) ≤ sum desks (reserved_at s) = sum_mono desks desk_within in
      omega (arith, (sound_stands s p.sound).reservations)

  -- THEOREM. The records in use and those that it adds are at most K
  pub room_missing : used s + missing_if (is_counted s d i) d (recent_at s d i) (records_in s) ≤ room s
  room_missing = omega (arith, length_if d i a (recent_at s d i) cr (is_counted s d i) (records_in s) (rising s p.sound), records_length s, room_enough)
