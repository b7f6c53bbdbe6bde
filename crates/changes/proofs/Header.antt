-- The header after a feed: what it says of each desk. Assumes nothing.
use mathlib.Core.Path.{◌≡◌, refl, sym, ap, ap₂, ◌∙◌, subst}
use mathlib.Core.Logic.{◌≢◌}
use mathlib.Core.Bool.{Bool, true, false, cond, ◌&&◌}
use mathlib.Core.List.{List}
use Prim.Native.Nat.{ℕ, zero, suc, ◌+◌, ◌≤◌, ◌<◌}
use native.Mathlib.Omega.{arith}
use borrow.Author.Tests.{eq-eqb, ne_eqb}
use lib.Dec.{T, eqb}
use lib.ListN.{drop, get_or}
use lib.Seq.{get_or-take, get_or-drop}
use Rattle.numbers.specs.Limits.{deepest, longest, desks}
use Rattle.numbers.specs.Sum.{one, sum}
use Rattle.numbers.proofs.Orders.{less, same, more, order}
use Rattle.numbers.proofs.Sums.{sum_cong}
use Rattle.contexts.specs.Context.{is_context}
use Rattle.contexts.specs.Sitting.{Sample, first, second, same_sample}
use Rattle.store.specs.Layout.{desk_start, field, symbols_at, depth_at, size_field, recent_field, size_at, slots_at, opening_numbers, desk_numbers}
use Rattle.store.specs.Sound.{reserved_at}
use Rattle.store.specs.Plain.{Open}
use Rattle.store.proofs.Standing.{sound_stands}
use Rattle.changes.specs.FedStore.{FedStore, Acceptable, shifted}
use Rattle.changes.proofs.Counted.{same_sym}

-- two desks are one, or not
pub same? : (e d : ℕ) → Dec (e ≡ d)
same? e d = elim (order e d) [
  | less l ↦ no (λ q. omega arith)
  | same q ↦ yes q
  | more l ↦ no (λ q. omega arith)
]

-- a recent symbol is one of the desk's numbers
pub slot_field : (u : List ℕ) (e : ℕ) (j : Sample) (k : ℕ) → k < deepest → get_or (slots_at u e j) k 0 ≡ field u e (recent_field j + k)
slot_field u e j k l =
    let at : desk_start e + recent_field j + k ≡ desk_start e + (recent_field j + k) = omega arith in
    get_or-take deepest (drop (desk_start e + recent_field j) u) k 0 l ∙ get_or-drop (desk_start e + recent_field j) u k 0 ∙ ap (λ (n : ℕ). get_or u n 0) at

slot_number : (j : Sample) (k : ℕ) → k < deepest → recent_field j + k < desk_numbers
slot_number first k l = omega arith
slot_number second k l = omega arith

shifted_below : (a A : ℕ) (slots : List ℕ) (k : ℕ) → k < deepest → a < A → ((n : ℕ) → n < deepest → get_or slots n 0 < A) → get_or (shifted a slots) k 0 < A
shifted_below a A slots zero l b each = b
shifted_below a A slots (suc k) l b each = rw (get_or-take 5 slots k 0 (omega arith)) (each k (omega arith))

module _ (s t : List ℕ) (d : ℕ) (i : Sample) (a : ℕ) (f : FedStore s t d i a) where
  -- open or not, A, D, the weight and the reservation
  pub limit_same : (e n : ℕ) → e < desks → n < opening_numbers → field t e n ≡ field s e n
  limit_same e n l m = elim (same? e d) [
    | yes q ↦ rw q (f.limits_same n m)
    | no q ↦ f.others_same e n l q (omega arith)
  ]

  other_size : (e : ℕ) → e < desks → e ≢ d → (j : Sample) → size_at t e j ≡ size_at s e j
  other_size e l q first = f.others_same e (size_field first) l q (omega arith)
  other_size e l q second = f.others_same e (size_field second) l q (omega arith)

  pub size_after_lem : (e : ℕ) → e < desks → (j : Sample) → size_at t e j ≡ size_at s e j + one (eqb d e && same_sample i j)
  size_after_lem e l j = elim (same? e d) [
    | yes q ↦ rw (q, eq-eqb d d refl, same_sym i j) (f.sizes j)
    | no q ↦ rw (ne_eqb d e (λ z. q (sym z))) (let g = other_size e l q j in omega arith)
  ]

  pub open_before : (e : ℕ) → Open t e → Open s e
  open_before e o = record { desk = o.desk; opened = subst (λ (m : ℕ). T (eqb m 1)) (limit_same e 0 o.desk (omega arith)) o.opened }

  pub open_after : (e : ℕ) → Open s e → Open t e
  open_after e o = record { desk = o.desk; opened = subst (λ (m : ℕ). T (eqb m 1)) (sym (limit_same e 0 o.desk (omega arith))) o.opened }

  pub context_same : (e : ℕ) → e < desks → (c : List ℕ) → is_context (symbols_at t e) (depth_at t e) c ≡ is_context (symbols_at s e) (depth_at s e) c
  context_same e l c = ap₂ (λ (A D : ℕ). is_context A D c) (limit_same e 1 l (omega arith)) (limit_same e 2 l (omega arith))

  pub reserved_same : (e : ℕ) → e < desks → reserved_at t e ≡ reserved_at s e
  reserved_same e l = ap₂ (λ (m n : ℕ). cond (eqb m 1) n 0) (limit_same e 0 l (omega arith)) (limit_same e 4 l (omega arith))

  pub reservations_same : sum desks (reserved_at t) ≡ sum desks (reserved_at s)
  reservations_same = sum_cong desks reserved_same

  module _ (p : Acceptable s d i a) where
    -- "0 to 2,048 symbols"
    pub size_within : (e : ℕ) → Open s e → (j : Sample) → size_at t e j ≤ longest
    size_within e o j = elim (same? e d) [
      | yes q ↦ rw q (go (same_sample j i) refl (f.sizes j))
      | no q ↦ rw (other_size e o.desk q j) ((sound_stands s p.sound).lengths e o j)
    ]
      where
        same_is : (j k : Sample) → same_sample j k ≡ true → size_at s d j ≡ size_at s d k
        same_is first first e = refl
        same_is first second e = let z : ◌≡◌ {A = ℕ} 0 1 = cc in absurd (omega arith)
        same_is second first e = let z : ◌≡◌ {A = ℕ} 0 1 = cc in absurd (omega arith)
        same_is second second e = refl

        go : (b : Bool) → same_sample j i ≡ b → size_at t d j ≡ size_at s d j + one (same_sample j i) → size_at t d j ≤ longest
        go true e g = let m = same_is j i e in let g' : size_at t d j ≡ size_at s d j + 1 = rw e at g in omega (arith, p.not_full)
        go false e g = let g' : size_at t d j ≡ size_at s d j + 0 = rw e at g in omega (arith, (sound_stands s p.sound).lengths d p.at_open j)

    pub slots_below : (e : ℕ) → Open s e → (j : Sample) (k : ℕ) → k < deepest → get_or (slots_at t e j) k 0 < symbols_at t e
    slots_below e o j k l = rw (limit_same e 1 o.desk (omega arith)) (elim (same? e d) [
      | yes q ↦ rw (q, f.slots j) (go (same_sample j i))
      | no q ↦ rw (slot_field t e j k l ∙ f.others_same e (recent_field j + k) o.desk q (slot_number j k l) ∙ sym (slot_field s e j k l)) ((sound_stands s p.sound).symbols e o j k l)
    ])
      where
        before : (n : ℕ) → n < deepest → get_or (slots_at s d j) n 0 < symbols_at s d
        before = (sound_stands s p.sound).symbols d p.at_open j

        go : (b : Bool) → get_or (cond b (shifted a (slots_at s d j)) (slots_at s d j)) k 0 < symbols_at s d
        go true = shifted_below a (symbols_at s d) (slots_at s d j) k l p.of_alphabet_holds before
        go false = before k l
