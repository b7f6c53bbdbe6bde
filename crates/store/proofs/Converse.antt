-- The way back: a store that is sound in document 01's words passes the test. Assumes nothing.
use mathlib.Core.Path.{◌≡◌, sym, ap, subst, ◌∙◌}
use mathlib.Core.Bool.{true, ◌||◌}
use mathlib.Core.List.{List, []}
use Prim.Native.Nat.{ℕ, ◌+◌, ◌-◌, ◌≤◌, ◌<◌}
use native.Mathlib.Omega.{arith}
use lib.Dec.{T, ltb, eqb, lt→ltb, le→leb}
use lib.ListN.{length, get_or}
use Rattle.numbers.specs.Limits.{most_symbols, deepest, desks}
use Rattle.numbers.proofs.Tests.{T?, both, or_left, or_right, of_true}
use Rattle.numbers.proofs.Orders.{less, same, more, order, eq→eqb}
use Rattle.numbers.proofs.Every.{every_of, all_of}
use Rattle.contexts.specs.Context.{is_context, parent_of}
use Rattle.contexts.specs.Keys.{key_of, desk_of, context_of}
use Rattle.contexts.specs.Sitting.{Sample, first, second, sum_of}
use Rattle.contexts.proofs.Strings.{begins_take, context_more}
use Rattle.contexts.proofs.KeyOrder.{Within, desk_of_key, context_of_key}
use Rattle.records.specs.Records.{key, keys, counts_of, rises, lookup}
use Rattle.records.proofs.Rising.{apart_rises}
use Rattle.records.proofs.Finding.{lookup_place}
use Rattle.store.specs.Layout.{used, is_open, symbols_at, depth_at, size_at, slots_at, records_in, total_of}
use Rattle.store.specs.Sound.{of_alphabet, each_sample, desk_ok, held_by, key_ok, quiet_from, counts_ok, sample_ok, table_ok, parent_ok, record_ok, soundb}
use Rattle.store.specs.Plain.{Open, ContextAt, record_for, total_at, nth_record, Sound}
use Rattle.store.proofs.Many.{sample_of_lem}
use Rattle.store.proofs.Parts.{records_length}
use Rattle.store.proofs.Desks.{desk_shut, stands_desk}
use Rattle.store.proofs.Passing.{passes}
use Rattle.store.proofs.Standing.{slots_long}

stands_counts : (A n : ℕ) (part : List ℕ) → ((a : ℕ) → A ≤ a → get_or part a 0 ≡ 0) → sum_of part ≤ n → T (counts_ok A n part)
unfolding counts_ok quiet_from
stands_counts A n part quiet within =
    both (quiet_from A part) _
    (every_of most_symbols (λ a. ltb a A || eqb (get_or part a 0) 0) (λ a l. elim (order a A) [
      | less o ↦ or_left (ltb a A) _ (lt→ltb a A o)
      | same e ↦ or_right (ltb a A) (eqb (get_or part a 0) 0) (eq→eqb (get_or part a 0) 0 (quiet a (omega arith)))
      | more o ↦ or_right (ltb a A) (eqb (get_or part a 0) 0) (eq→eqb (get_or part a 0) 0 (quiet a (omega arith)))
    ]))
    (le→leb (sum_of part) n within)

module _ (s : List ℕ) (h : Sound s) where
  inside : (j : ℕ) → j < length (records_in s) → j < used s
  inside j l = rw (← records_length s) l

  -- the desks
  each_desk : (d : ℕ) → d < desks → T (desk_ok s (records_in s) d)
  each_desk d l = elim (T? (is_open s d)) [
    | yes t ↦
        let o : Open s d = record { desk = l; opened = t } in
        stands_desk s d (held_by d (records_in s)) t (record {
          fewest = h.alphabet_fewest d o;
          most = h.alphabet_most d o;
          depth = h.depth d o;
          weight = h.weight d o;
          some = h.reserve_some d o;
          sizes = h.lengths d o;
          within = h.reserved_held d o;
          slots = λ i. all_of (of_alphabet (symbols_at s d)) (slots_at s d i) 0 (λ j m. lt→ltb (get_or (slots_at s d i) j 0) (symbols_at s d)
              (h.symbols d o i j (rw (← slots_long s d i l (omega (arith, h.long))) m)));
        })
    | no n ↦ of_true _ (desk_shut s d (held_by d (records_in s)) n)
  ]

  -- a record r, that counts the context c at desk d
  module _ (r : List ℕ) (d : ℕ) (c : List ℕ) (o : Open s d) (x : ContextAt s d c) (k : key r ≡ key_of d c) (own : record_for s d c ≡ r) where
    within : Within c
    within = context_more (symbols_at s d) most_symbols (depth_at s d) deepest c (h.alphabet_most d o) (h.depth d o) x

    desk_is : desk_of (key r) ≡ d
    desk_is = ap desk_of k ∙ desk_of_key d c within

    context_is : context_of (key r) ≡ c
    context_is = ap context_of k ∙ context_of_key d c within

    key_passes : T (key_ok s (key r))
    unfolding key_ok
    key_passes = rw (desk_is, context_is)
        (both (ltb d desks) _ (lt→ltb d desks o.desk)
        (both (is_open s d) _ o.opened
        (both (is_context (symbols_at s d) (depth_at s d) c) _ x
        (eq→eqb (key_of d c) (key r) (sym k)))))

    sample_passes : (i : Sample) → T (sample_ok s r i)
    sample_passes i = subst (λ (m : ℕ). T (counts_ok (symbols_at s m) (size_at s m i) (counts_of i r))) (sym desk_is)
        (subst (λ (z : List ℕ). T (counts_ok (symbols_at s d) (size_at s d i) (counts_of i z))) own
        (stands_counts _ _ (counts_of i (record_for s d c))
        (h.counts_below d o c x i)
        (h.totals d o c x i)))

    parent_passes : (i : Sample) → T (parent_ok (records_in s) r i)
    unfolding parent_ok
    parent_passes i = elim (order 0 (total_of i r)) [
      | less l ↦
          let seen : 0 < total_at s d i c = subst (λ (z : List ℕ). 0 < total_of i z) (sym own) l in
          let up : 0 < total_at s d i (parent_of c) =
          h.suffixes d o c (parent_of c) x (begins_take (length c - 1) c) i seen in
          or_right (eqb (total_of i r) 0) _ (rw (desk_is, context_is) (lt→ltb 0 (total_at s d i (parent_of c)) up))
      | same e ↦ or_left (eqb (total_of i r) 0) _ (eq→eqb (total_of i r) 0 (sym e))
      | more l ↦ absurd (omega arith)
    ]

    record_passes : 0 < total_of first r + total_of second r → T (record_ok s (records_in s) r)
    unfolding record_ok table_ok
    record_passes seen =
        both (key_ok s (key r)) _ key_passes
        (both (table_ok s r) _
        (both (each_sample (sample_ok s r)) _ (sample_of_lem (sample_ok s r) sample_passes) (lt→ltb 0 (total_of first r + total_of second r) seen))
        (sample_of_lem (parent_ok (records_in s) r) parent_passes))

  -- so does the record at each place
  record_at_lem : T (rises 0 (keys (records_in s))) → (j : ℕ) → j < length (records_in s) → T (record_ok s (records_in s) (nth_record s j))
  record_at_lem up j l =
      let n = h.each_counts j (inside j l) in
      let own : record_for s n.desk n.context ≡ nth_record s j = ap (λ (k : ℕ). lookup k (records_in s)) (sym n.under_key) ∙ lookup_place 0 j (records_in s) up l in
      record_passes (nth_record s j) n.desk n.context n.at_open n.is_context_holds n.under_key own n.seen

-- THEOREM. A store that meets document 01's conditions, and what the test asks beyond them, passes the test
pub stands_sound : (s : List ℕ) → Sound s → soundb s ≡ true
stands_sound s h =
    let up = apart_rises 0 (records_in s) (λ i l. omega arith) (λ i j l m. h.in_order i j l (inside s h j m)) in
    passes s (record {
      framed = record { some = h.room_some; most = h.room_most; long = h.long; few = h.few };
      up = up;
      each = all_of (record_ok s (records_in s)) (records_in s) [] (record_at_lem s h up);
      each_desk = every_of desks (desk_ok s (records_in s)) (each_desk s h);
      reserves = h.reservations;
    })
