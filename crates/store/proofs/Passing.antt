-- The parts of a passed test, and what it tells of a record and of a desk's context. Assumes nothing.
use mathlib.Core.Path.{◌≡◌, ap, subst, ◌∙◌}
use mathlib.Core.Bool.{true, ◌&&◌, ◌||◌}
use mathlib.Core.List.{List, []}
use Prim.Native.Nat.{ℕ, ◌≤◌}
use native.Mathlib.Omega.{arith}
use lib.Dec.{T, ltb, eqb, leb→le, le→leb, ltb→lt, eqb→eq}
use lib.ListN.{length, drop, get_or, length-take, get_or-eq_default}
use Rattle.numbers.specs.Limits.{most_symbols, deepest, desks}
use Rattle.numbers.specs.Sum.{sum}
use Rattle.numbers.specs.Every.{every, all}
use Rattle.numbers.proofs.Tests.{T?, both, left, right, or_rest, of_true, is_true, is_false}
use Rattle.numbers.proofs.Orders.{less, same, more, order}
use Rattle.numbers.proofs.Every.{every_at, all_at}
use Rattle.contexts.specs.Keys.{key_of, desk_of, context_of}
use Rattle.contexts.specs.Sitting.{Sample, sum_of}
use Rattle.contexts.proofs.Strings.{context_more}
use Rattle.contexts.proofs.KeyOrder.{Within, desk_of_key, context_of_key}
use Rattle.records.specs.Records.{key, keys, counts_of, start_of, rises, blank}
use Rattle.records.specs.Held.{held}
use Rattle.records.proofs.Finding.{lookup_absent, lookup_held, key_lookup}
use Rattle.records.proofs.Counting.{count_blank, total_blank}
use Rattle.store.specs.Layout.{header_size, room, symbols_at, depth_at, size_at, records_in}
use Rattle.store.specs.Sound.{each_sample, frame_ok, desk_ok, held_by, reserved_at, key_ok, quiet_from, counts_ok, sample_ok, table_ok, parent_ok, record_ok, records_ok, soundb}
use Rattle.store.specs.Plain.{Open, ContextAt, record_for}
use Rattle.store.proofs.Many.{sample_at}
use Rattle.store.proofs.Desks.{DeskStands, desk_stands}
use Rattle.store.proofs.Whole.{Frame, frame, frame_of}

pub record Passed (s : List ℕ) : Type 0 where
  pub framed : Frame s
  pub up : T (rises 0 (keys (records_in s)))
  pub each : T (all (record_ok s (records_in s)) (records_in s))
  pub each_desk : T (every desks (desk_ok s (records_in s)))
  pub reserves : sum desks (reserved_at s) ≤ room s

pub passed : (s : List ℕ) → soundb s ≡ true → Passed s
unfolding soundb records_ok
passed s e =
    let rs = records_in s in
    let t = of_true (soundb s) e in
    let one = right (frame_ok s) _ t in
    let two = left (records_ok s rs && every desks (desk_ok s rs)) _ one in
    let three = left (records_ok s rs) _ two in
    record {
      framed = frame s (left (frame_ok s) _ t);
      up = left (rises 0 (keys rs)) _ three;
      each = right (rises 0 (keys rs)) _ three;
      each_desk = right (records_ok s rs) _ two;
      reserves = leb→le (sum desks (reserved_at s)) (room s) (right (records_ok s rs && every desks (desk_ok s rs)) _ one);
    }

-- a sound store has its header, so a desk's numbers can be read
pub header_long : (s : List ℕ) → soundb s ≡ true → header_size ≤ length s
header_long s h = omega (arith, (passed s h).framed.long)

pub passes : (s : List ℕ) → Passed s → soundb s ≡ true
unfolding soundb records_ok
passes s h =
    let rs = records_in s in
    is_true (soundb s)
    (both (frame_ok s) _ (frame_of s h.framed)
    (both (records_ok s rs && every desks (desk_ok s rs)) _
    (both (records_ok s rs) _ (both (rises 0 (keys rs)) _ h.up h.each) h.each_desk)
    (le→leb (sum desks (reserved_at s)) (room s) h.reserves)))

-- ---- eight counts

pub record CountsStand (A n : ℕ) (part : List ℕ) : Type 0 where
  pub quiet : (a : ℕ) → A ≤ a → get_or part a 0 ≡ 0
  pub within : sum_of part ≤ n

counts_stand : (A n : ℕ) (part : List ℕ) → length part ≤ most_symbols → T (counts_ok A n part) → CountsStand A n part
unfolding counts_ok quiet_from
counts_stand A n part short t = record {
  quiet = λ a h. elim (order a most_symbols) [
    | less l ↦ eqb→eq (get_or part a 0) 0 (or_rest (ltb a A) _ (every_at most_symbols (λ x. ltb x A || eqb (get_or part x 0) 0) (left (quiet_from A part) _ t) a l) (λ b. let c = ltb→lt a A b in omega arith))
    | same e ↦ get_or-eq_default part 0 (omega arith)
    | more l ↦ get_or-eq_default part 0 (omega arith)
  ];
  within = leb→le (sum_of part) n (right (quiet_from A part) _ t);
}

pub counts_short : (i : Sample) (r : List ℕ) → length (counts_of i r) ≤ most_symbols
counts_short i r = omega (arith, length-take most_symbols (drop (start_of i) r))

-- ---- a record

module _ (s : List ℕ) (rs : List (List ℕ)) (r : List ℕ) (t : T (record_ok s rs r)) where
  pub record_key : T (key_ok s (key r))
  unfolding record_ok
  record_key = left (key_ok s (key r)) _ t

  pub record_table : T (table_ok s r)
  unfolding record_ok
  record_table = left (table_ok s r) _ (right (key_ok s (key r)) _ t)

  pub record_parents : (i : Sample) → T (parent_ok rs r i)
  unfolding record_ok
  record_parents = sample_at (parent_ok rs r) (right (table_ok s r) _ (right (key_ok s (key r)) _ t))

  pub record_counts : (i : Sample) → CountsStand (symbols_at s (desk_of (key r))) (size_at s (desk_of (key r)) i) (counts_of i r)
  unfolding table_ok
  record_counts i = counts_stand _ _ (counts_of i r) (counts_short i r) (sample_at (sample_ok s r) (left (each_sample (sample_ok s r)) _ record_table) i)

-- ---- a desk and its contexts

module _ (s : List ℕ) (h : Passed s) (d : ℕ) (o : Open s d) where
  pub desk_passed : DeskStands s d (held_by d (records_in s))
  desk_passed = desk_stands s d (held_by d (records_in s)) o.opened (every_at desks (desk_ok s (records_in s)) h.each_desk d o.desk)

  pub context_within : (c : List ℕ) → ContextAt s d c → Within c
  context_within c x = context_more (symbols_at s d) most_symbols (depth_at s d) deepest c desk_passed.most desk_passed.depth x

  -- a context has no record, or one that passes and has its key
  pub data At (c : List ℕ) : Type 0 where
    absent : record_for s d c ≡ blank (key_of d c) → At c
    present : T (record_ok s (records_in s) (record_for s d c)) → key (record_for s d c) ≡ key_of d c → desk_of (key (record_for s d c)) ≡ d → context_of (key (record_for s d c)) ≡ c → At c

  pub at : (c : List ℕ) → ContextAt s d c → At c
  at c x = elim (T? (held (key_of d c) (records_in s))) [
    | no n ↦ absent (lookup_absent (key_of d c) (records_in s) (is_false (held (key_of d c) (records_in s)) n))
    | yes t ↦
        let k : key (record_for s d c) ≡ key_of d c = key_lookup (key_of d c) (records_in s) t in
        present (lookup_held (λ r. T (record_ok s (records_in s) r)) (key_of d c) (records_in s) (λ j l e. all_at (record_ok s (records_in s)) (records_in s) j [] h.each l) t)
        k (ap desk_of k ∙ desk_of_key d c (context_within c x)) (ap context_of k ∙ context_of_key d c (context_within c x))
  ]

  pub context_counts : (c : List ℕ) → ContextAt s d c → (i : Sample) → CountsStand (symbols_at s d) (size_at s d i) (counts_of i (record_for s d c))
  context_counts c x i = elim (at c x) [
    | absent e ↦ rw e (record { quiet = λ a l. count_blank i a (key_of d c); within = omega (arith, total_blank i (key_of d c)) })
    | present t k q f ↦ subst (λ (m : ℕ). CountsStand (symbols_at s m) (size_at s m i) (counts_of i (record_for s d c))) q (record_counts s (records_in s) (record_for s d c) t i)
  ]
