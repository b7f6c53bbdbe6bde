-- A desk's meaning depends on its own numbers in the header and its own records alone. Assumes nothing.
use mathlib.Core.Path.{◌≡◌, sym, ap₂, ◌∙◌, subst, fun_ext}
use mathlib.Core.Bool.{true, cond}
use mathlib.Core.List.{List}
use Prim.Native.Nat.{ℕ, min, ◌+◌, ◌≤◌, ◌<◌}
use native.Mathlib.Omega.{arith}
use borrow.Author.Tests.{eq-eqb}
use lib.Dec.{T, eqb}
use lib.ListN.{length, take, get_or}
use lib.Seq.{ext_get_or}
use Rattle.numbers.specs.Limits.{most_symbols, deepest, desks}
use Rattle.numbers.proofs.Tests.{T?, is_false}
use Rattle.numbers.proofs.Lists.{get_d_part}
use Rattle.contexts.specs.Context.{is_context}
use Rattle.contexts.specs.Keys.{key_of, desk_of}
use Rattle.contexts.specs.Sitting.{Sample, first, second}
use Rattle.contexts.proofs.Strings.{context_more}
use Rattle.contexts.proofs.KeyOrder.{Within, desk_of_key}
use Rattle.records.specs.Records.{lookup}
use Rattle.records.specs.Held.{count_at, keep, of_desk}
use Rattle.records.proofs.Keeping.{lookup_local}
use Rattle.replay.specs.Room.{opened}
use Rattle.store.specs.Layout.{header_size, desk_start, desk_numbers, field, size_field, recent_field, symbols_at, depth_at, size_at, slots_at, records_in}
use Rattle.store.specs.Sound.{soundb}
use Rattle.store.specs.Plain.{Open}
use Rattle.store.specs.Meaning.{opening_at, progress_at, desk_at}
use Rattle.store.proofs.Passing.{passed, desk_passed}
use Rattle.store.proofs.Standing.{slots_long}
use Rattle.store.proofs.Fitting.{desk_opened, desk_closed, open?}

-- two stores have one desk's numbers and records
pub record SameDesk (s t : List ℕ) (d : ℕ) : Type 0 where
  pub long_before : header_size ≤ length s
  pub long_after : header_size ≤ length t
  pub fields : (f : ℕ) → f < desk_numbers → field s d f ≡ field t d f
  pub kept : keep (of_desk d) (records_in s) ≡ keep (of_desk d) (records_in t)

module _ (s t : List ℕ) (d : ℕ) (e : SameDesk s t d) where
  pub same_size : (i : Sample) → size_at s d i ≡ size_at t d i
  same_size first = e.fields (size_field first) (omega arith)
  same_size second = e.fields (size_field second) (omega arith)

  same_slot : (i : Sample) (j : ℕ) → j < deepest → get_or s (desk_start d + recent_field i + j) 0 ≡ get_or t (desk_start d + recent_field i + j) 0
  same_slot first j l =
      let q : desk_start d + recent_field first + j ≡ desk_start d + (recent_field first + j) = omega arith in
      rw q (e.fields (recent_field first + j) (omega arith))
  same_slot second j l =
      let q : desk_start d + recent_field second + j ≡ desk_start d + (recent_field second + j) = omega arith in
      rw q (e.fields (recent_field second + j) (omega arith))

  pub same_slots : d < desks → (i : Sample) → slots_at s d i ≡ slots_at t d i
  same_slots l i =
      let m = slots_long s d i l e.long_before in
      ext_get_or 0 (slots_at s d i) (slots_at t d i) (m ∙ sym (slots_long t d i l e.long_after))
      (λ j h. get_d_part deepest (desk_start d + recent_field i) s j 0 (omega arith) ∙ same_slot i j (omega arith) ∙ sym (get_d_part deepest (desk_start d + recent_field i) t j 0 (omega arith)))

  -- a context of the desk has the same record in both
  same_record : (c : List ℕ) → Within c → lookup (key_of d c) (records_in s) ≡ lookup (key_of d c) (records_in t)
  same_record c w = lookup_local (of_desk d) (key_of d c) (records_in s) (records_in t) e.kept (eq-eqb (desk_of (key_of d c)) d (desk_of_key d c w))

  same_count : symbols_at s d ≤ most_symbols → depth_at s d ≤ deepest → (i : Sample) (c : List ℕ) (a : ℕ) → (progress_at s d).count i c a ≡ (progress_at t d).count i c a
  same_count most deep i c a =
      go (T? (is_context (symbols_at s d) (depth_at s d) c))
      ∙ ap₂ (λ (A D : ℕ). cond (is_context A D c) (count_at (key_of d c) i a (records_in t)) 0) (e.fields 1 (omega arith)) (e.fields 2 (omega arith))
    where
      go : Dec (T (is_context (symbols_at s d) (depth_at s d) c))
          → (progress_at s d).count i c a ≡ cond (is_context (symbols_at s d) (depth_at s d) c) (count_at (key_of d c) i a (records_in t)) 0
      go (yes x) = rw (same_record c (context_more (symbols_at s d) most_symbols (depth_at s d) deepest c most deep x))
      go (no n) = rw (is_false (is_context (symbols_at s d) (depth_at s d) c) n)

  same_opening : opening_at s d ≡ opening_at t d
  same_opening =
      let p = e.fields 1 (omega arith) in
      let q = e.fields 2 (omega arith) in
      let w = e.fields 3 (omega arith) in
      let r = e.fields 4 (omega arith) in
      λ j. record { symbols = p j; depth = q j; weight = w j; reserve = r j }

  same_progress : d < desks → symbols_at s d ≤ most_symbols → depth_at s d ≤ deepest → progress_at s d ≡ progress_at t d
  same_progress l most deep =
      let p : (progress_at s d).size ≡ (progress_at t d).size = fun_ext same_size in
      let q : (progress_at s d).recent ≡ (progress_at t d).recent = fun_ext (λ i. ap₂ take (ap₂ min (same_size i) (e.fields 2 (omega arith))) (same_slots l i)) in
      let r : (progress_at s d).count ≡ (progress_at t d).count = fun_ext (λ i. fun_ext (λ c. fun_ext (λ a. same_count most deep i c a))) in
      λ j. record { size = p j; recent = q j; count = r j }

  -- THEOREM. A desk means the same in two stores that have its numbers and its records
  pub desk_local : (Open s d → (symbols_at s d ≤ most_symbols) × (depth_at s d ≤ deepest)) → desk_at s d ≡ desk_at t d
  desk_local limits = elim (open? s d) [
    | yes o ↦
        let o' : Open t d = record { desk = o.desk; opened = subst (λ (m : ℕ). T (eqb m 1)) (e.fields 0 (omega arith)) o.opened } in
        desk_opened s d o ∙ ap₂ opened same_opening (same_progress o.desk (limits o).0 (limits o).1) ∙ sym (desk_opened t d o')
    | no n ↦
        desk_closed s d n ∙ sym (desk_closed t d (λ o. n (record { desk = o.desk; opened = subst (λ (m : ℕ). T (eqb m 1)) (sym (e.fields 0 (omega arith))) o.opened })))
  ]

-- .. of which the first is sound
pub desk_stays : (s t : List ℕ) (d : ℕ) → soundb s ≡ true → SameDesk s t d → desk_at s d ≡ desk_at t d
desk_stays s t d h e = desk_local s t d e (λ o. let g = desk_passed s (passed s h) d o in (g.most, g.depth))
