-- A store passes the test exactly where it is sound in document 01's words. Assumes nothing.
use mathlib.Core.Path.{◌≡◌, sym, ap, subst, ◌∙◌}
use mathlib.Core.Logic.{inl, inr}
use mathlib.Core.Bool.{true}
use mathlib.Core.List.{List, [], ◌∷◌, ◌++◌}
use Prim.Native.Nat.{ℕ, zero, suc, ◌+◌, ◌≤◌, ◌<◌}
use native.Mathlib.Omega.{arith}
use lib.Dec.{T, ltb→lt}
use lib.ListN.{length, drop, get_or, length-drop}
use lib.Seq.{length-take-le}
use Rattle.numbers.specs.Limits.{deepest, desks}
use Rattle.numbers.proofs.Orders.{less, same, more, order}
use Rattle.numbers.proofs.Every.{all_at}
use Rattle.contexts.specs.Context.{begins, parent_of}
use Rattle.contexts.specs.Keys.{key_of, desk_of, context_of}
use Rattle.contexts.specs.Sitting.{Sample, first, second}
use Rattle.contexts.proofs.Oldest.{none, some, oldest, parent_snoc, length_snoc, context_parent, begins_cut}
use Rattle.records.specs.Records.{key, lookup}
use Rattle.records.proofs.Rising.{rises_apart}
use Rattle.records.proofs.Counting.{total_blank}
use Rattle.store.specs.Layout.{header_size, desk_start, used, symbols_at, depth_at, recent_field, slots_at, records_in, total_of}
use Rattle.store.specs.Sound.{of_alphabet, held_by, parent_key, record_ok, soundb}
use Rattle.store.specs.Plain.{Open, ContextAt, record_for, total_at, Counts, nth_record, Sound}
use Rattle.store.proofs.Parts.{records_length}
use Rattle.store.proofs.Desks.{DeskStands}
use Rattle.store.proofs.Climbing.{table_seen, parent_seen}
use Rattle.store.proofs.Passing.{Passed, passed, record_key, record_table, record_parents, desk_passed, context_counts, absent, present, at}
use Rattle.store.proofs.Declared.{key_stands}

-- ---- the sample that has seen a context has seen what begins it

module _ (s : List ℕ) (h : Passed s) (d : ℕ) (o : Open s d) (i : Sample) where
  pub seen_parent : (p : List ℕ) (a : ℕ) → ContextAt s d (p ++ a ∷ []) → 0 < total_at s d i (p ++ a ∷ []) → 0 < total_at s d i p
  seen_parent p a x l = elim (at s h d o (p ++ a ∷ []) x) [
    | absent e ↦ absurd (omega (arith, ap (total_of i) e, total_blank i (key_of d (p ++ a ∷ []))))
    | present t k q f ↦
        let r = record_for s d (p ++ a ∷ []) in
        let up : parent_key (key r) ≡ key_of d p = ap (λ (m : ℕ). key_of m (parent_of (context_of (key r)))) q ∙ ap (key_of d) (ap parent_of f ∙ parent_snoc p a) in
        subst (λ (m : ℕ). 0 < total_of i (lookup m (records_in s))) up (parent_seen (records_in s) r i (record_parents s (records_in s) r t i) l)
  ]

  begins_nil : (c t : List ℕ) → c ≡ [] → T (begins t c) → 0 < total_at s d i c → 0 < total_at s d i t
  begins_nil c [] q b l = subst (λ (z : List ℕ). 0 < total_at s d i z) q l
  begins_nil c (y ∷ t) q b l = absurd (subst (λ (z : List ℕ). T (begins (y ∷ t) z)) q b)

  seen_shorter : (n : ℕ) (c t : List ℕ) → length c ≤ n → ContextAt s d c → T (begins t c) → 0 < total_at s d i c → 0 < total_at s d i t
  seen_shorter zero c t e x b l = elim (oldest c) [
    | none q ↦ begins_nil c t q b l
    | some p a q ↦ absurd (omega (arith, ap length q, length_snoc p a))
  ]
  seen_shorter (suc n) c t e x b l = elim (oldest c) [
    | none q ↦ begins_nil c t q b l
    | some p a q ↦
        let y = subst (ContextAt s d) q x in
        let m = subst (λ (z : List ℕ). 0 < total_at s d i z) q l in
        elim (begins_cut t p a (subst (λ (z : List ℕ). T (begins t z)) q b)) [
          | inl g ↦ subst (λ (z : List ℕ). 0 < total_at s d i z) (sym g) m
          | inr g ↦ seen_shorter n p t (omega (arith, ap length q, length_snoc p a)) (context_parent (symbols_at s d) (depth_at s d) p a y) g (seen_parent p a y m)
        ]
  ]

-- ---- what passes is sound

pub slots_long : (s : List ℕ) (d : ℕ) (i : Sample) → d < desks → header_size ≤ length s → length (slots_at s d i) ≡ deepest
slots_long s d first l h = length-take-le deepest (drop (desk_start d + recent_field first) s) (rw (length-drop (desk_start d + recent_field first) s) (omega arith))
slots_long s d second l h = length-take-le deepest (drop (desk_start d + recent_field second) s) (rw (length-drop (desk_start d + recent_field second) s) (omega arith))

module _ (s : List ℕ) (h : Passed s) where
  inside : (j : ℕ) → j < used s → j < length (records_in s)
  inside j l = rw (records_length s) l

  record_counts_one : (j : ℕ) → j < used s → Counts s (nth_record s j)
  record_counts_one j l =
      let r = nth_record s j in
      let t = all_at (record_ok s (records_in s)) (records_in s) j [] h.each (inside j l) in
      let g = key_stands s (key r) (record_key s (records_in s) r t) in
      record {
        desk = desk_of (key r);
        context = context_of (key r);
        at_open = record { desk = g.desk; opened = g.opened };
        is_context_holds = g.context;
        under_key = sym g.back;
        seen = table_seen s r (record_table s (records_in s) r t);
      }

  once : (j k : ℕ) → j < used s → k < used s → key (nth_record s j) ≡ key (nth_record s k) → j ≡ k
  once j k l m e = elim (order j k) [
    | less o ↦ absurd (let g = rises_apart 0 (records_in s) j k h.up o (inside k m) in omega arith)
    | same q ↦ q
    | more o ↦ absurd (let g = rises_apart 0 (records_in s) k j h.up o (inside j l) in omega arith)
  ]

-- THEOREM. A store that passes the test meets each of document 01's conditions
pub sound_stands : (s : List ℕ) → soundb s ≡ true → Sound s
sound_stands s e =
    let h = passed s e in
    let f = h.framed in
    let desk : (d : ℕ) → Open s d → DeskStands s d (held_by d (records_in s)) = desk_passed s h in
    record {
      room_some = f.some;
      room_most = f.most;
      long = f.long;
      alphabet_fewest = λ d o. (desk d o).fewest;
      alphabet_most = λ d o. (desk d o).most;
      depth = λ d o. (desk d o).depth;
      lengths = λ d o. (desk d o).sizes;
      weight = λ d o. (desk d o).weight;
      symbols = λ d o i j l. ltb→lt (get_or (slots_at s d i) j 0) (symbols_at s d) (all_at (of_alphabet (symbols_at s d)) (slots_at s d i) j 0 ((desk d o).slots i) (rw (slots_long s d i o.desk (omega (arith, f.long))) l));
      reservations = h.reserves;
      reserved_held = λ d o. (desk d o).within;
      held_once = once s h;
      counts_below = λ d o c x i. (context_counts s h d o c x i).quiet;
      totals = λ d o c x i. (context_counts s h d o c x i).within;
      suffixes = λ d o c t x b i. seen_shorter s h d o i (length c) c t (omega arith) x b;
      reserve_some = λ d o. (desk d o).some;
      few = f.few;
      each_counts = record_counts_one s h;
      in_order = λ j k l m. rises_apart 0 (records_in s) j k h.up l (inside s h k m);
    }
