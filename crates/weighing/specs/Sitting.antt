-- What the records of a store hold for one desk, and what a weighing asks of them. Assumes nothing.
use Rattle.std.specs.Prelude.{◌≡◌, cond, List, ℕ, ◌+◌, ◌≤◌, ◌<◌, get_or, T}
use Rattle.numbers.specs.Limits.{most_symbols, deepest, most_weight, most_counted, desks}
use Rattle.contexts.specs.Context.{is_context}
use Rattle.contexts.specs.Keys.{key_of, desk_of}
use Rattle.contexts.specs.Sitting.{Sample, first, second, Sitting, total_in}
use Rattle.rows.specs.Walk.{older}
use Rattle.records.specs.Records.{records, counts_of, lookup}
use Rattle.records.specs.Held.{held, Standing}
use Rattle.weighing.specs.declared.Desk.{Desk}

-- n and m, by sample
abbrev pub sizes : ℕ → ℕ → Sample → ℕ
sizes n m first = n
sizes n m second = m

-- the sitting that records hold for a desk: the counts of a context are those under its key
abbrev pub sitting_in : Desk → List (List ℕ) → Sitting
sitting_in k rs = record {
  symbols = k.symbols;
  depth = k.depth;
  weight = k.weight;
  size = sizes k.n k.m;
  count = λ i s a. cond (is_context k.symbols k.depth s) (get_or (counts_of i (lookup (key_of k.number s) rs)) a 0) 0;
}

-- what a weighing asks of a desk and of the first n records: those of a sound store have it
pub record Weighable (k : Desk) (n : ℕ) (l : List ℕ) : Type 0 where
  pub standing : Standing n l
  pub desk : k.number < desks
  pub some : 1 ≤ k.symbols
  pub few : k.symbols ≤ most_symbols
  pub shallow : k.depth ≤ deepest
  pub light : k.weight ≤ most_weight
  pub sized : k.n + k.m ≤ most_counted
  -- every record of the desk is that of one of its contexts ..
  pub contexts : (key : ℕ) → T (held key (records n l)) → desk_of key ≡ k.number → (s : List ℕ) × T (is_context k.symbols k.depth s) × (key ≡ key_of k.number s)
  -- .. whose shorter suffixes are held
  pub parents : (s : List ℕ) (a : ℕ) → T (held (key_of k.number (older s a)) (records n l)) → T (is_context k.symbols k.depth (older s a)) → T (held (key_of k.number s) (records n l))
  -- no count stands at a symbol from A up, and the counts of a context are few enough for the logarithm
  pub below : (i : Sample) (s : List ℕ) (a : ℕ) → k.symbols ≤ a → (sitting_in k (records n l)).count i s a ≡ 0
  pub counted : (s : List ℕ) → total_in (sitting_in k (records n l)) first s + total_in (sitting_in k (records n l)) second s ≤ most_counted
