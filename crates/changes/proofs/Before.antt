-- A sound store as a feed finds it: its header and its records. Assumes nothing.
use mathlib.Core.Path.{◌≡◌, sym, ap, ap₂, ◌∙◌}
use mathlib.Core.Bool.{true, false}
use mathlib.Core.List.{List}
use Prim.Native.Nat.{ℕ, ◌+◌, ◌*◌, ◌≤◌, ◌<◌}
use native.Mathlib.Omega.{arith}
use lib.Dec.{T, ltb, ltb→lt, lt→ltb}
use lib.ListN.{length, drop, length-drop}
use Rattle.numbers.specs.Limits.{most_symbols, longest}
use Rattle.numbers.proofs.Sums.{sum_part}
use Rattle.numbers.proofs.Tests.{T?, bool_ext, is_false}
use Rattle.contexts.specs.Keys.{key_of}
use Rattle.contexts.specs.Sitting.{Sample, first, second, is_held}
use Rattle.records.specs.Records.{width, count_of, lookup}
use Rattle.records.specs.Held.{held, Rising, Wide, Standing}
use Rattle.records.proofs.Parts.{wide_records}
use Rattle.records.proofs.Finding.{held_place, lookup_place, lookup_absent}
use Rattle.records.proofs.Counting.{total_blank}
use Rattle.store.specs.Layout.{header_size, used, records_in, total_of}
use Rattle.store.specs.Sound.{soundb}
use Rattle.store.specs.Plain.{Open, ContextAt, record_for, total_at, nth_record, Sound}
use Rattle.store.specs.Meaning.{sitting_at}
use Rattle.store.proofs.Parts.{records_length}
use Rattle.store.proofs.Passing.{passed}
use Rattle.store.proofs.Standing.{sound_stands}
use Rattle.store.proofs.Holding.{total_context}

module _ (s : List ℕ) (h : soundb s ≡ true) where
  stands : Sound s
  stands = sound_stands s h

  pub body_fits : width * used s ≤ length (drop header_size s)
  body_fits = rw (length-drop header_size s) (omega (arith, stands.few, stands.long))

  pub rising : Rising (records_in s)
  rising = (passed s h).up

  pub wide : Wide (records_in s)
  unfolding records_in
  wide = wide_records (used s) (drop header_size s) body_fits

  pub standing : Standing (used s) (drop header_size s)
  unfolding records_in
  standing = record { fits = body_fits; rising = rising }

  -- no count is above a sample's longest
  pub record_small : (i : Sample) (a : ℕ) → a < most_symbols → (n : ℕ) → n < length (records_in s) → count_of i (nth_record s n) a ≤ longest
  record_small i a l n m =
      let c = stands.each_counts n (omega (arith, records_length s)) in
      let own : record_for s c.desk c.context ≡ nth_record s n = ap (λ (x : ℕ). lookup x (records_in s)) (sym c.under_key) ∙ lookup_place 0 n (records_in s) rising m in
      let part : count_of i (nth_record s n) a ≤ total_of i (nth_record s n) = sum_part most_symbols (count_of i (nth_record s n)) a l in
      omega (arith, ap (total_of i) own, stands.totals c.desk c.at_open c.context c.is_context_holds i, stands.lengths c.desk c.at_open i)

  -- a record that is held has counted something
  pub held_seen : (k : ℕ) → T (held k (records_in s)) → 0 < total_of first (lookup k (records_in s)) + total_of second (lookup k (records_in s))
  held_seen k t =
      let p = held_place k (records_in s) t in
      let inside : p.place < used s = omega (arith, p.inside, records_length s) in
      let r : lookup k (records_in s) ≡ nth_record s p.place = ap (λ (m : ℕ). lookup m (records_in s)) (sym p.has) ∙ lookup_place 0 p.place (records_in s) rising p.inside in
      rw r (stands.each_counts p.place inside).seen

  pub absent_total : (i : Sample) (k : ℕ) → held k (records_in s) ≡ false → total_of i (lookup k (records_in s)) ≡ 0
  absent_total i k e = ap (total_of i) (lookup_absent k (records_in s) e) ∙ total_blank i k

  -- a context is held where a record has its key
  pub held_is : (d : ℕ) → Open s d → (c : List ℕ) → ContextAt s d c → is_held (sitting_at s d) c ≡ held (key_of d c) (records_in s)
  held_is d o c x =
      ap₂ (λ (m n : ℕ). ltb 0 (m + n)) (total_context s (passed s h) d o first c x) (total_context s (passed s h) d o second c x)
      ∙ bool_ext _ _ to (λ t. lt→ltb 0 (total_at s d first c + total_at s d second c) (held_seen (key_of d c) t))
    where
      to : T (ltb 0 (total_at s d first c + total_at s d second c)) → T (held (key_of d c) (records_in s))
      to t = elim (T? (held (key_of d c) (records_in s))) [
        | yes y ↦ y
        | no n ↦
            let e = is_false (held (key_of d c) (records_in s)) n in
            absurd (omega (arith, ltb→lt 0 (total_at s d first c + total_at s d second c) t, absent_total first (key_of d c) e, absent_total second (key_of d c) e))
      ]
