-- What stands under the key of a context is the table of the sitting at the desk, so the chart read there is the sitting's. Assumes nothing.
use Prim.Native.Nat.{ℕ, ◌*◌, ◌≤◌, ◌<◌}
use native.Mathlib.Omega.{arith}
use mathlib.Core.Path.{◌≡◌, ap, ap₂, ◌∙◌}
use mathlib.Core.Bool.{true}
use mathlib.Core.List.{List, [], ◌∷◌}
use lib.ListN.{length, drop, length-drop}
use lib.Seq.{length-take-le}
use Rattle.numbers.specs.Limits.{most_symbols}
use Rattle.numbers.proofs.Tests.{is_true}
use Rattle.contexts.specs.Context.{is_context}
use Rattle.contexts.specs.Keys.{key_of}
use Rattle.contexts.specs.Sitting.{Sample, first, second, eight, table}
use Rattle.contexts.proofs.Tables.{eight_same}
use Rattle.records.specs.Records.{width, records, counts_of, lookup}
use Rattle.records.specs.Held.{count_table, Standing}
use Rattle.records.proofs.Parts.{wide_records}
use Rattle.records.proofs.Counting.{wide_lookup}
use Rattle.chart.specs.Answer.{chart_of, chart_in}
use Rattle.chart.proofs.Tables.{table_chart, table_askable}
use Rattle.store.specs.Layout.{header_size, used, symbols_at, depth_at, records_in}
use Rattle.store.specs.Sound.{soundb}
use Rattle.store.specs.Plain.{Open, ContextAt}
use Rattle.store.specs.Meaning.{opening_at, progress_at, sitting_at, SittingFits}
use Rattle.store.proofs.Passing.{passed}
use Rattle.store.proofs.Fitting.{sitting_fits}
use Rattle.charting.specs.Reading.{Readable}

-- ---- the records of a sound store

module _ (s : List ℕ) (e : soundb s ≡ true) where
  body_long : width * used s ≤ length (drop header_size s)
  body_long = let f = (passed s e).framed in rw (length-drop header_size s) (omega (arith, f.long, f.few))

  pub records_stand : Standing (used s) (drop header_size s)
  unfolding records_in
  records_stand = record { fits = body_long; rising = (passed s e).up }

  -- a sample's counts under any key are eight
  counts_long : (k : ℕ) (i : Sample) → length (counts_of i (lookup k (records_in s))) ≡ most_symbols
  unfolding records_in
  counts_long k i =
      let w = wide_lookup k (records (used s) (drop header_size s)) (wide_records (used s) (drop header_size s) body_long) in
      go (lookup k (records (used s) (drop header_size s))) w i
    where
      go : (r : List ℕ) → length r ≡ width → (i : Sample) → length (counts_of i r) ≡ most_symbols
      go r w first = length-take-le most_symbols (drop 1 r) (rw (length-drop 1 r) (omega arith))
      go r w second = length-take-le most_symbols (drop 9 r) (rw (length-drop 9 r) (omega arith))

-- ---- a context at an open desk of a sound store

module _ (s : List ℕ) (e : soundb s ≡ true) (d : ℕ) (o : Open s d) (c : List ℕ) (x : ContextAt s d c) where
  fits : SittingFits (opening_at s d) (progress_at s d)
  fits = sitting_fits s (passed s e) d o

  row_read : (i : Sample) → counts_of i (lookup (key_of d c) (records_in s)) ≡ eight ((sitting_at s d).count i c)
  row_read i =
      eight_same (counts_of i (lookup (key_of d c) (records_in s))) (counts_long s e (key_of d c) i)
      ∙ rw (is_true (is_context (symbols_at s d) (depth_at s d) c) x)

  -- THEOREM. What stands under the context's key is the sitting's table of it
  pub table_read : count_table (lookup (key_of d c) (records_in s)) ≡ table (sitting_at s d) c
  table_read = ap₂ (λ (p q : List ℕ). p ∷ q ∷ []) (row_read first) (row_read second)

  -- ---- a symbol of the sitting
  module _ (a : ℕ) (l : a < symbols_at s d) where
    small : a < most_symbols
    small = omega (arith, fits.alphabet_most)

    pub chart_read : chart_in (count_table (lookup (key_of d c) (records_in s))) a ≡ chart_of (sitting_at s d) c a
    chart_read =
        ap (λ (t : List (List ℕ)). chart_in t a) table_read ∙ table_chart (sitting_at s d) c fits.alphabet_most (λ i. fits.only_below i c) a small

    pub readable : Readable s (key_of d c) a
    readable = record {
      header = omega (arith, (passed s e).framed.long);
      standing = records_stand s e;
      askable =
          rw table_read
          (table_askable (sitting_at s d) c fits.alphabet_most (λ i. fits.only_below i c) a small (λ i. omega (arith, fits.totals i c, fits.sizes i)));
    }
