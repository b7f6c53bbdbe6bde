-- The numbers of a store whose desk was opened, as the code writes them: the desk's own part comes back as those of a fresh desk. Assumes nothing.
use Prim.Native.Nat.{ℕ, ◌+◌, ◌-◌, ◌≤◌, ◌<◌}
use native.Mathlib.Omega.{arith}
use native.Mathlib.Nat.{le_of_eq}
use mathlib.Core.Path.{◌≡◌, sym, ap, ap₂, ◌∙◌}
use mathlib.Core.Logic.{◌≢◌}
use mathlib.Core.List.{List, [], ◌++◌}
use lib.ListN.{length, take, drop, get_or, set, replicate, length-append, length-drop, drop_of_length-le, get_or-append}
use lib.Seq.{length-take-le, drop_at, drop-drop, get_or-take, get_or-drop}
use Rattle.numbers.specs.Limits.{deepest, desks}
use Rattle.numbers.proofs.Orders.{less, same, more, order}
use Rattle.contexts.specs.Sitting.{Sample, first, second}
use Rattle.records.specs.Records.{records}
use Rattle.records.proofs.Lent.{past_lent, agree_later}
use Rattle.replay.specs.Room.{Opening, naming}
use Rattle.store.specs.Layout.{header_size, store_size, desk_start, room, field, size_field, size_at, recent_field, slots_at, records_in, desk_numbers}
use Rattle.store.specs.Meaning.{opening_at}
use Rattle.changes.specs.Changes.{fresh_desk, Opened}

-- ---- the part: zeros, then the numbers that the opening names

pub laid_out : (l₀ l : List ℕ) (i A D weight r : ℕ) → length l₀ ≡ desk_numbers → desk_numbers ≤ i → i ≤ desk_numbers → l ≡ replicate i 0 ++ drop i l₀
    → set (set (set (set (set l 0 1) 1 A) 2 D) 3 weight) 4 r ≡ fresh_desk (naming A D weight r)
laid_out l₀ l i A D weight r long low high e =
    let all : i ≡ desk_numbers = omega arith in
    let none : drop desk_numbers l₀ ≡ [] = drop_of_length-le l₀ {i = desk_numbers} (le_of_eq long) in
    let zeros : l ≡ replicate desk_numbers 0 = e ∙ rw (all, none) in
    rw zeros

-- ---- the store

-- what is there when desk d's part has come back as ys
abbrev pub laid : List ℕ → ℕ → List ℕ → List ℕ
laid s d ys = take (desk_start d) s ++ (ys ++ drop (desk_start d + desk_numbers - desk_start d) (drop (desk_start d) s))

module _ (s : List ℕ) (d : ℕ) (o : Opening) (long : header_size ≤ length s) (l : d < desks) (ys : List ℕ) (fresh : ys ≡ fresh_desk o) where
  start : length (take (desk_start d) s) ≡ desk_start d
  start = length-take-le (desk_start d) s (omega arith)

  size : length ys ≡ desk_numbers
  size = ap length fresh

  past : drop (desk_start d + desk_numbers) (laid s d ys) ≡ drop (desk_start d + desk_numbers) s
  past = past_lent (desk_start d) (desk_start d + desk_numbers) s (omega arith) (omega arith) ys (size ∙ omega arith)

  later : (n : ℕ) → desk_start d + desk_numbers ≤ n → drop n (laid s d ys) ≡ drop n s
  later n h = agree_later (desk_start d + desk_numbers) n (laid s d ys) s h past

  before : (j : ℕ) → j < desk_start d → get_or (laid s d ys) j 0 ≡ get_or s j 0
  before j h = get_or-append (take (desk_start d) s) _ 0 j (omega (arith, start)) ∙ get_or-take (desk_start d) s j 0 h

  after : (j : ℕ) → desk_start d + desk_numbers ≤ j → get_or (laid s d ys) j 0 ≡ get_or s j 0
  after j h =
      let none : j + 0 ≡ j = omega arith in
      rw (← none, ← get_or-drop j (laid s d ys) 0 0, ← get_or-drop j s 0 0) (ap (λ (z : List ℕ). get_or z 0 0) (later j h))

  all_long : length (laid s d ys) ≡ length s
  all_long =
      let rest = drop (desk_start d + desk_numbers - desk_start d) (drop (desk_start d) s) in
      rw (length-append (take (desk_start d) s) (ys ++ rest), length-append ys rest)
      (omega (arith, start, size, length-drop (desk_start d + desk_numbers - desk_start d) (drop (desk_start d) s), length-drop (desk_start d) s))

  -- the desk's own numbers are what came back
  own : drop (desk_start d) (laid s d ys) ≡ fresh_desk o ++ drop (desk_start d + desk_numbers - desk_start d) (drop (desk_start d) s)
  own = drop_at (take (desk_start d) s) _ (desk_start d) start ∙ ap (λ (z : List ℕ). z ++ drop (desk_start d + desk_numbers - desk_start d) (drop (desk_start d) s)) fresh

  own_field : (f : ℕ) → field (laid s d ys) d f ≡ get_or (fresh_desk o ++ drop (desk_start d + desk_numbers - desk_start d) (drop (desk_start d) s)) f 0
  own_field f = sym (get_or-drop (desk_start d) (laid s d ys) f 0) ∙ ap (λ (z : List ℕ). get_or z f 0) own

  own_slots : (f : ℕ) → take deepest (drop (desk_start d + f) (laid s d ys)) ≡ take deepest (drop f (fresh_desk o ++ drop (desk_start d + desk_numbers - desk_start d) (drop (desk_start d) s)))
  own_slots f = ap (take deepest) (sym (drop-drop f (desk_start d) (laid s d ys)) ∙ ap (drop f) own)

  slots_now : (i : Sample) → slots_at (laid s d ys) d i ≡ replicate deepest 0
  slots_now first = own_slots (recent_field first)
  slots_now second = own_slots (recent_field second)

  sizes_now : (i : Sample) → size_at (laid s d ys) d i ≡ 0
  sizes_now first = own_field (size_field first)
  sizes_now second = own_field (size_field second)

  others_now : (e f : ℕ) → e ≢ d → e < desks → f < desk_numbers → field (laid s d ys) e f ≡ field s e f
  others_now e f n k m = elim (order e d) [
    | less h ↦ before (desk_start e + f) (omega arith)
    | same q ↦ absurd (n q)
    | more h ↦ after (desk_start e + f) (omega arith)
  ]

  named_now : opening_at (laid s d ys) d ≡ o
  named_now =
      let p = own_field 1 in
      let q = own_field 2 in
      let w = own_field 3 in
      let r = own_field 4 in
      λ j. record { symbols = p j; depth = q j; weight = w j; reserve = r j }

  records_now : records_in (laid s d ys) ≡ records_in s
  unfolding records_in
  records_now = ap₂ records (before 1 (omega arith)) (later header_size (omega arith))

  -- THEOREM. What the code leaves is the store with desk d opened
  pub opened_now : Opened s (laid s d ys) d o
  opened_now = record {
    beside = record { room_same = before 0 (omega arith); others = others_now; past = later (store_size (room s)) (omega arith); long = all_long };
    used_same = before 1 (omega arith);
    records_same = records_now;
    marked = own_field 0;
    named = named_now;
    empty = sizes_now;
    slots = slots_now;
  }
