-- A store stays sound through a feed. Assumes nothing.
use mathlib.Core.Path.{◌≡◌, refl, sym, ap, ◌∙◌, subst}
use mathlib.Core.Bool.{Bool, true, false, ◌&&◌}
use mathlib.Core.List.{List}
use Prim.Native.Nat.{ℕ, ◌+◌, ◌≤◌, ◌<◌}
use native.Mathlib.Omega.{arith}
use borrow.Author.Tests.{ne_eqb}
use lib.Dec.{T, eqb}
use lib.ListN.{length}
use Rattle.numbers.specs.Sum.{one}
use Rattle.numbers.proofs.Orders.{less, same, more, order}
use Rattle.contexts.specs.Context.{begins}
use Rattle.contexts.specs.Sitting.{Sample, first, second, same_sample}
use Rattle.contexts.proofs.Strings.{begins→take}
use Rattle.contexts.proofs.KeyOrder.{Within}
use Rattle.contexts.proofs.Followed.{context_take}
use Rattle.records.specs.Records.{key, lookup, count_of}
use Rattle.records.specs.Held.{held}
use Rattle.records.proofs.Finding.{place_held, lookup_place}
use Rattle.records.proofs.Rising.{rises_apart}
use Rattle.store.specs.Layout.{used, symbols_at, size_at, records_in, total_of}
use Rattle.store.specs.Sound.{soundb}
use Rattle.store.specs.Plain.{Open, ContextAt, Counts, record_for, total_at, nth_record, Sound}
use Rattle.store.proofs.Parts.{records_length}
use Rattle.store.proofs.Standing.{sound_stands}
use Rattle.store.proofs.Converse.{stands_sound}
use Rattle.changes.specs.FedStore.{FedStore, Acceptable, recent_at, is_counted}
use Rattle.changes.proofs.Recent.{within}
use Rattle.changes.proofs.Counted.{counted_trans, one_part, either}
use Rattle.changes.proofs.Header.{same?, limit_same, size_after_lem, open_before, open_after, context_same, reservations_same, size_within, slots_below}
use Rattle.changes.proofs.Tallied.{rising_after, count_after, total_after, owned_after, seen_after_lem, held_after, few_after}

module _ (s t : List ℕ) (d : ℕ) (i : Sample) (a : ℕ) (f : FedStore s t d i a) (p : Acceptable s d i a) where
  stands : Sound s
  stands = sound_stands s p.sound

  before : (e : ℕ) → Open t e → Open s e
  before = open_before s t d i a f

  context_before : (e : ℕ) → Open t e → (c : List ℕ) → ContextAt t e c → ContextAt s e c
  context_before e o c x = subst T (context_same s t d i a f e o.desk c) x

  context_within : (e : ℕ) → Open t e → (c : List ℕ) → ContextAt t e c → Within c
  context_within e o c x = within s p.sound e (before e o) c (context_before e o c x)

  -- "no count above 0 stands at a symbol from A up"
  below_after : (e : ℕ) → Open t e → (c : List ℕ) → ContextAt t e c → (j : Sample) (b : ℕ) → symbols_at t e ≤ b → count_of j (record_for t e c) b ≡ 0
  below_after e o c x j b l =
      let A = limit_same s t d i a f e 1 o.desk (omega arith) in
      let z = stands.counts_below e (before e o) c (context_before e o c x) j b (omega arith) in
      count_after s t d i a f p e c (context_within e o c x) j b
      ∙ elim (same? e d) [
        | yes q ↦
            let n : one (eqb d e && (same_sample i j && (is_counted s d i && (begins c (recent_at s d i) && eqb a b)))) ≡ 0 = none e (λ m. omega (arith, p.of_alphabet_holds, ap (symbols_at s) q)) in omega arith
        | no q ↦ let n : one (eqb d e && (same_sample i j && (is_counted s d i && (begins c (recent_at s d i) && eqb a b)))) ≡ 0 = rw (ne_eqb d e (λ m. q (sym m))) in omega arith
      ]
    where
      never : (x y k z : Bool) → one (x && (y && (k && (z && false)))) ≡ 0
      never true true true true = refl
      never true true true false = refl
      never true true false z = refl
      never true false k z = refl
      never false y k z = refl

      none : (e : ℕ) → (a ≡ b → ⊥) → one (eqb d e && (same_sample i j && (is_counted s d i && (begins c (recent_at s d i) && eqb a b)))) ≡ 0
      none e m = rw (ne_eqb a b m) (never (eqb d e) (same_sample i j) (is_counted s d i) (begins c (recent_at s d i)))

  -- "no context's total N(s) in a sample passes that sample's length"
  totals_after : (e : ℕ) → Open t e → (c : List ℕ) → ContextAt t e c → (j : Sample) → total_at t e j c ≤ size_at t e j
  totals_after e o c x j =
      omega (
        arith,
        total_after s t d i a f p e c (context_within e o c x) j,
        size_after_lem s t d i a f e o.desk j,
        stands.totals e (before e o) c (context_before e o c x) j,
        one_part (eqb d e) (same_sample i j) (is_counted s d i && begins c (recent_at s d i)),
      )

  -- "no context is seen in a sample that has not seen its shorter suffixes"
  suffixes_after : (e : ℕ) → Open t e → (c u : List ℕ) → ContextAt t e c → T (begins u c) → (j : Sample) → 0 < total_at t e j c → 0 < total_at t e j u
  suffixes_after e o c u x b j l =
      let one_more = total_after s t d i a f p e c (context_within e o c x) j in
      rw (total_after s t d i a f p e u wu j)
      (either (total_at s e j c) (total_at s e j u) (eqb d e) (same_sample i j) (is_counted s d i && begins c (recent_at s d i)) (is_counted s d i && begins u (recent_at s d i))
      (stands.suffixes e (before e o) c u (context_before e o c x) b j) (counted_trans (is_counted s d i) u c (recent_at s d i) b) (omega arith))
    where
      wu : Within u
      wu = subst Within (begins→take u c b) (context_take _ _ (length u) c (context_within e o c x))

  -- every record counts a context of an open desk, at least once
  counts_after : (j : ℕ) → j < used t → Counts t (nth_record t j)
  counts_after j l =
      let k = key (nth_record t j) in
      let inside : j < length (records_in t) = omega (arith, records_length t) in
      let held_there = place_held k j (records_in t) inside refl in
      let w = owned_after s t d i a f p k held_there in
      let x = within s p.sound w.desk w.at_open w.context w.is_context_holds in
      let r : record_for t w.desk w.context ≡ nth_record t j = ap (λ (m : ℕ). lookup m (records_in t)) (sym w.under_key) ∙ lookup_place 0 j (records_in t) (rising_after s t d i a f p) inside in
      let n = seen_after_lem s t d i a f p w.desk w.context x (subst (λ (m : ℕ). T (held m (records_in t))) w.under_key held_there) in
      record {
        desk = w.desk;
        context = w.context;
        at_open = open_after s t d i a f w.desk w.at_open;
        is_context_holds = subst T (sym (context_same s t d i a f w.desk w.at_open.desk w.context)) w.is_context_holds;
        under_key = w.under_key;
        seen = subst (λ (z : List ℕ). 0 < total_of first z + total_of second z) r n;
      }

  in_order_after : (j k : ℕ) → j < k → k < used t → key (nth_record t j) < key (nth_record t k)
  in_order_after j k l m = rises_apart 0 (records_in t) j k (rising_after s t d i a f p) l (omega (arith, records_length t))

  once_after : (j k : ℕ) → j < used t → k < used t → key (nth_record t j) ≡ key (nth_record t k) → j ≡ k
  once_after j k l m e = elim (order j k) [
    | less n ↦ absurd (let g = in_order_after j k n m in omega arith)
    | same q ↦ q
    | more n ↦ absurd (let g = in_order_after k j n l in omega arith)
  ]

  -- THEOREM. What an accepted feed leaves passes the soundness test
  pub fed_sound : soundb t ≡ true
  fed_sound =
      let limit = limit_same s t d i a f in
      stands_sound t (record {
        room_some = omega (arith, f.room_same, stands.room_some);
        room_most = omega (arith, f.room_same, stands.room_most);
        long = omega (arith, f.room_same, f.length_same, stands.long);
        alphabet_fewest = λ e o. rw (limit e 1 o.desk (omega arith)) (stands.alphabet_fewest e (before e o));
        alphabet_most = λ e o. rw (limit e 1 o.desk (omega arith)) (stands.alphabet_most e (before e o));
        depth = λ e o. rw (limit e 2 o.desk (omega arith)) (stands.depth e (before e o));
        weight = λ e o. rw (limit e 3 o.desk (omega arith)) (stands.weight e (before e o));
        lengths = λ e o. size_within s t d i a f p e (before e o);
        symbols = λ e o. slots_below s t d i a f p e (before e o);
        reservations = omega (arith, reservations_same s t d i a f, f.room_same, stands.reservations);
        reserved_held = λ e o. rw (limit e 4 o.desk (omega arith)) (held_after s t d i a f p e (before e o));
        held_once = once_after;
        counts_below = below_after;
        totals = totals_after;
        suffixes = suffixes_after;
        reserve_some = λ e o. rw (limit e 4 o.desk (omega arith)) (stands.reserve_some e (before e o));
        few = omega (arith, f.room_same, few_after s t d i a f p);
        each_counts = counts_after;
        in_order = in_order_after;
      })
