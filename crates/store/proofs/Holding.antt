-- The counts of a sound store's meaning: N(s) is a record's total, and a sitting holds as many contexts as its desk has records.
-- Assumes nothing.
use mathlib.Core.Path.{◌≡◌, refl, sym, ap, ap₂, ◌∙◌, subst}
use mathlib.Core.Bool.{Bool, true, false, ◌&&◌}
use mathlib.Core.List.{List, []}
use Prim.Native.Nat.{ℕ, ◌+◌, ◌<◌}
use native.Mathlib.Omega.{arith}
use borrow.Author.Tests.{lt-ltb, le-ltb, eq-eqb}
use lib.Dec.{T, ltb, eqb→eq}
use lib.ListN.{length, get_or}
use Rattle.numbers.specs.Limits.{most_symbols}
use Rattle.numbers.specs.Sum.{one}
use Rattle.numbers.proofs.Tests.{left, right, of_true, is_true, is_false}
use Rattle.numbers.proofs.Sums.{sum_cong, sum_zero, sum_past}
use Rattle.numbers.proofs.Every.{all_at}
use Rattle.contexts.specs.Context.{is_context}
use Rattle.contexts.specs.Keys.{key_of, desk_of, context_of}
use Rattle.contexts.specs.Sitting.{Sample, first, second, total_in, is_held, contexts_held}
use Rattle.contexts.proofs.Totalling.{total_within}
use Rattle.contexts.proofs.KeyOrder.{desk_of_key}
use Rattle.records.specs.Records.{key, count_of}
use Rattle.records.specs.Held.{held, keep, of_desk}
use Rattle.records.proofs.Finding.{lookup_absent, lookup_held}
use Rattle.records.proofs.Counting.{total_blank}
use Rattle.records.proofs.Keeping.{rises_keep, keep_all, held_keep}
use Rattle.store.specs.Layout.{symbols_at, depth_at, records_in, total_of}
use Rattle.store.specs.Sound.{held_by, record_ok, soundb}
use Rattle.store.specs.Plain.{Open, ContextAt, record_for, total_at}
use Rattle.store.specs.Meaning.{sitting_at}
use Rattle.store.proofs.Climbing.{table_seen}
use Rattle.store.proofs.Passing.{Passed, passed, record_key, record_table, desk_passed, context_within, context_counts}
use Rattle.store.proofs.Totalling.{total_keys}
use Rattle.store.proofs.Declared.{key_stands}

-- no count where there is no context
pub total_outside : (s : List ℕ) (d : ℕ) (i : Sample) (c : List ℕ) → (ContextAt s d c → ⊥) → total_in (sitting_at s d) i c ≡ 0
total_outside s d i c n = sum_zero (symbols_at s d) (λ a l. rw (is_false (is_context (symbols_at s d) (depth_at s d) c) n))

module _ (s : List ℕ) (h : Passed s) (d : ℕ) (o : Open s d) where
  -- N(c) is the total in the record of c
  pub total_context : (i : Sample) (c : List ℕ) → ContextAt s d c → total_in (sitting_at s d) i c ≡ total_at s d i c
  total_context i c x =
      sum_cong (symbols_at s d) {g = count_of i (record_for s d c)} (λ a l. rw (is_true (is_context (symbols_at s d) (depth_at s d) c) x))
      ∙ sym (sum_past (symbols_at s d) most_symbols (count_of i (record_for s d c)) (desk_passed s h d o).most (context_counts s h d o c x i).quiet)

  own_desk : (c : List ℕ) → ContextAt s d c → of_desk d (key_of d c) ≡ true
  own_desk c x = eq-eqb (desk_of (key_of d c)) d (desk_of_key d c (context_within s h d o c x))

  -- a context is held where it has a record
  held_is : (c : List ℕ) → ContextAt s d c → is_held (sitting_at s d) c ≡ held (key_of d c) (keep (of_desk d) (records_in s))
  held_is c x =
      ap₂ (λ (m n : ℕ). ltb 0 (m + n)) (total_context first c x) (total_context second c x)
      ∙ go (held (key_of d c) (records_in s)) refl
      ∙ sym (held_keep (of_desk d) (key_of d c) (records_in s) ∙ rw (own_desk c x))
    where
      go : (t : Bool) → held (key_of d c) (records_in s) ≡ t → ltb 0 (total_at s d first c + total_at s d second c) ≡ held (key_of d c) (records_in s)
      go true e =
          let t = lookup_held (λ r. T (record_ok s (records_in s) r)) (key_of d c) (records_in s) (λ j l q. all_at (record_ok s (records_in s)) (records_in s) j [] h.each l) (of_true _ e) in
          rw e (lt-ltb 0 _ (table_seen s (record_for s d c) (record_table s (records_in s) (record_for s d c) t)))
      go false e =
          let b = lookup_absent (key_of d c) (records_in s) e in
          rw e (le-ltb 0 (total_at s d first c + total_at s d second c) (omega (arith, ap (total_of first) b, ap (total_of second) b, total_blank first (key_of d c), total_blank second (key_of d c))))

  -- a record of the desk is that of a context
  own_context : (j : ℕ) → j < length (keep (of_desk d) (records_in s)) → (c : List ℕ) × ContextAt s d c × (key (get_or (keep (of_desk d) (records_in s)) j []) ≡ key_of d c)
  own_context j l =
      let r = get_or (keep (of_desk d) (records_in s)) j [] in
      let t = all_at (λ x. record_ok s (records_in s) x && of_desk d (key x)) (keep (of_desk d) (records_in s)) j [] (keep_all (of_desk d) (record_ok s (records_in s)) (records_in s) h.each) l in
      let g = key_stands s (key r) (record_key s (records_in s) r (left (record_ok s (records_in s) r) _ t)) in
      let e = eqb→eq (desk_of (key r)) d (right (record_ok s (records_in s) r) _ t) in
      (context_of (key r), subst (λ (m : ℕ). ContextAt s m (context_of (key r))) e g.context, sym g.back ∙ ap (λ (m : ℕ). key_of m (context_of (key r))) e)

  pub held_kept : contexts_held (sitting_at s d) ≡ held_by d (records_in s)
  held_kept =
      total_within (symbols_at s d) (depth_at s d) (λ c x. ap one (held_is c x))
      ∙ total_keys (symbols_at s d) (depth_at s d) d (desk_passed s h d o).most (desk_passed s h d o).depth 0 (keep (of_desk d) (records_in s)) (rises_keep (of_desk d) 0 (records_in s) h.up) own_context

-- THEOREM. In a sound store the sitting at an open desk holds as many contexts as the desk has records
pub held_records : (s : List ℕ) → soundb s ≡ true → (d : ℕ) → Open s d → contexts_held (sitting_at s d) ≡ held_by d (records_in s)
held_records s e = held_kept s (passed s e)
