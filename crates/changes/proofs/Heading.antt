-- What a noted header says, number by number of the store before it. Assumes nothing.
use mathlib.Core.Path.{◌≡◌, sym, ap, ◌∙◌}
use mathlib.Core.Logic.{◌≢◌}
use mathlib.Core.Bool.{cond}
use mathlib.Core.List.{List}
use Prim.Native.Nat.{ℕ, suc, ◌+◌, ◌≤◌, ◌<◌}
use native.Mathlib.Omega.{arith}
use lib.ListN.{length, take, drop, get_or}
use lib.Seq.{length-take-le}
use Rattle.numbers.specs.Limits.{deepest, desks}
use Rattle.numbers.specs.Sum.{one}
use Rattle.numbers.proofs.Orders.{less, same, more, order}
use Rattle.contexts.specs.Sitting.{Sample, same_sample}
use Rattle.store.specs.Layout.{header_size, room, desk_start, field, size_field, recent_field, size_at, slots_at, opening_numbers, desk_numbers}
use Rattle.store.proofs.Standing.{slots_long}
use Rattle.changes.specs.FedStore.{shifted}
use Rattle.changes.specs.Noted.{noted, Places}
use Rattle.changes.proofs.Numbering.{fields_of, own, other, kin, desk_places}
use Rattle.changes.proofs.Sets.{six_at, six_are}
use Rattle.changes.proofs.Noting.{noted_length, noted_before, noted_past, noted_size, noted_symbol}

-- u has a store's header and is as long as the store
pub record Headed (s u : List ℕ) : Type 0 where
  pub enough : header_size ≤ length s
  pub long : length u ≡ length s
  pub header : (k : ℕ) → k < header_size → get_or u k 0 ≡ get_or s k 0

module _ (s u : List ℕ) (h : Headed s u) (d : ℕ) (l : d < desks) (i : Sample) (m a : ℕ) where
  abbrev done : List ℕ
  done = noted m (desk_start d + size_field i) (desk_start d + recent_field i) a u

  pub places : Places (desk_start d + size_field i) (desk_start d + recent_field i) u
  places = desk_places u d i l (omega (arith, h.long, h.enough))

  pub done_long : length done ≡ length s
  done_long = noted_length m _ _ a u places ∙ h.long

  before : (k : ℕ) → k ≢ 1 → k ≢ desk_start d + size_field i → k < desk_start d + recent_field i → k < header_size → get_or done k 0 ≡ get_or s k 0
  before k q r n g = noted_before m _ _ a u places k q r n ∙ h.header k g

  past : (k : ℕ) → desk_start d + recent_field i + deepest ≤ k → k < header_size → get_or done k 0 ≡ get_or s k 0
  past k n g = noted_past m _ _ a u places k n ∙ h.header k g

  -- ---- what stays

  pub room_stays : room done ≡ room s
  room_stays = let f = fields_of i in before 0 (λ z. omega arith) (λ z. omega arith) (omega (arith, f.slots, f.low)) (omega arith)

  pub others_stay : (e f : ℕ) → e < desks → e ≢ d → f < desk_numbers → field done e f ≡ field s e f
  others_stay e f n q b =
      let g = fields_of i in
      elim (order e d) [
        | less o ↦ before (desk_start e + f) (λ z. omega arith) (λ z. omega (arith, g.low)) (omega (arith, g.slots, g.low)) (omega arith)
        | same z ↦ absurd (q z)
        | more o ↦ past (desk_start e + f) (omega (arith, g.slots, g.high)) (omega arith)
      ]

  pub limits_stay : (f : ℕ) → f < opening_numbers → field done d f ≡ field s d f
  limits_stay f b =
      let g = fields_of i in
      before (desk_start d + f) (λ z. omega arith) (λ z. omega (arith, g.low)) (omega (arith, g.slots, g.low)) (omega arith)

  -- ---- what moves on

  pub sizes_after : (j : Sample) → size_at done d j ≡ size_at s d j + one (same_sample j i)
  sizes_after j =
      let f = fields_of i in
      let g = fields_of j in
      elim (kin j i) [
        | own q e ↦ rw (e, q) (noted_size m _ _ a u places ∙ ap (λ (k : ℕ). k + 1) (h.header (desk_start d + size_field i) (omega (arith, f.high))))
        | other n e ↦ rw e (before (desk_start d + size_field j) (λ z. omega arith) (λ z. omega arith) (omega (arith, f.slots, f.low, g.high)) (omega (arith, g.high)) ∙ omega arith)
      ]

  -- the six places of a sample, inside the header
  six_inside : (j : Sample) → desk_start d + recent_field j + deepest ≤ header_size
  six_inside j = omega (arith, (fields_of j).slots, (fields_of j).high)

  six_long : (j : Sample) → length (slots_at s d j) ≡ deepest
  six_long j = slots_long s d j l h.enough

  six_before : take deepest (drop (desk_start d + recent_field i) u) ≡ slots_at s d i
  six_before =
      six_are u (desk_start d + recent_field i) (slots_at s d i) (omega (arith, six_inside i, h.long, h.enough)) (six_long i)
      (λ k b. h.header (desk_start d + recent_field i + k) (omega (arith, six_inside i)) ∙ sym (six_at s (desk_start d + recent_field i) k b))

  -- .. are those noted, or another sample's that stay
  own_six : (k : ℕ) → k < deepest → get_or done (desk_start d + recent_field i + k) 0 ≡ get_or (shifted a (slots_at s d i)) k 0
  own_six k b = noted_symbol m _ _ a u places k b ∙ ap (λ (x : List ℕ). get_or (shifted a x) k 0) six_before

  other_six : (j : Sample) → size_field j ≢ size_field i → (k : ℕ) → k < deepest → get_or done (desk_start d + recent_field j + k) 0 ≡ get_or s (desk_start d + recent_field j + k) 0
  other_six j n k b =
      let f = fields_of i in
      let g = fields_of j in
      elim (order (size_field j) (size_field i)) [
        | less o ↦ before (desk_start d + recent_field j + k) (λ z. omega arith) (λ z. omega (arith, f.high, g.low, g.slots)) (omega (arith, f.slots, g.slots)) (omega (arith, g.slots, g.high))
        | same q ↦ absurd (n q)
        | more o ↦ past (desk_start d + recent_field j + k) (omega (arith, f.slots, g.slots)) (omega (arith, g.slots, g.high))
      ]

  pub slots_after : (j : Sample) → slots_at done d j ≡ cond (same_sample j i) (shifted a (slots_at s d j)) (slots_at s d j)
  slots_after j = elim (kin j i) [
    | own q e ↦ rw (e, q) (six_are done (desk_start d + recent_field i) (shifted a (slots_at s d i)) (reach i) (ap suc (length-take-le 5 (slots_at s d i) (omega (arith, six_long i)))) own_six)
    | other n e ↦ rw e (six_are done (desk_start d + recent_field j) (slots_at s d j) (reach j) (six_long j) (λ k b. other_six j n k b ∙ sym (six_at s (desk_start d + recent_field j) k b)))
  ]
    where
      reach : (j : Sample) → desk_start d + recent_field j + deepest ≤ length done
      reach j = omega (arith, six_inside j, done_long, h.enough)
