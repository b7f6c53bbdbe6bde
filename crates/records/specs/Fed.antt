-- What a fed symbol that is counted does to the records: every context that it follows gets one more count. Assumes nothing.
use Rattle.std.specs.Prelude.{not, List, [], ◌∷◌, ◌++◌, ℕ, zero, suc, ◌+◌, ◌*◌, ◌≤◌, ◌<◌, length, take, T}
use Rattle.numbers.specs.Limits.{most_symbols, deepest, longest, desks}
use Rattle.numbers.specs.Sum.{one, sum}
use Rattle.contexts.specs.Context.{is_context}
use Rattle.contexts.specs.Keys.{key_of}
use Rattle.contexts.specs.Sitting.{Sample, sample_of}
use Rattle.records.specs.Records.{width, records, blank}
use Rattle.records.specs.Held.{held, count_at, Standing}
use Rattle.records.specs.Bumped.{raised, bumped}

-- one more of symbol a in sample i for the first j of the contexts take 0 recent, take 1 recent, .. of desk d
unfoldable pub fed_to : ℕ → ℕ → Sample → ℕ → List ℕ → List (List ℕ) → List (List ℕ)
fed_to zero d i a recent rs = rs
fed_to (suc j) d i a recent rs = bumped (key_of d (take j recent)) i a (fed_to j d i a recent rs)

-- symbol a is fed to sample i of desk d, after the symbols `recent`, most recent first: for all of these contexts, up to `recent` itself
abbrev pub fed : ℕ → Sample → ℕ → List ℕ → List (List ℕ) → List (List ℕ)
fed d i a recent = fed_to (suc (length recent)) d i a recent

-- q new records: those of its contexts of length m, m + 1, .., each with one count at cell c
unfoldable pub fresh : ℕ → ℕ → ℕ → List ℕ → ℕ → List (List ℕ)
fresh zero m d recent c = []
fresh (suc q) m d recent c = fresh q m d recent c ++ (raised c (blank (key_of d (take (m + q) recent))) ∷ [])

-- how many of the first j of these contexts no record has yet
abbrev pub missing_to : ℕ → ℕ → List ℕ → List (List ℕ) → ℕ
missing_to j d recent rs = sum j (λ i. one (not (held (key_of d (take i recent)) rs)))

-- .. of all of them
abbrev pub missing : ℕ → List ℕ → List (List ℕ) → ℕ
missing d recent rs = missing_to (suc (length recent)) d recent rs

-- what looking for its contexts asks: n records in rising order, a desk, and recent symbols within the limits
pub record Askable (d : ℕ) (recent : List ℕ) (n : ℕ) (l : List ℕ) : Type 0 where
  pub standing : Standing n l
  pub desk : d < desks
  pub context : T (is_context most_symbols deepest recent)

-- what a feed asks besides: a sample, a symbol, room for the missing contexts, and no count above a sample's longest
pub record Feedable (d i a : ℕ) (recent : List ℕ) (n : ℕ) (l : List ℕ) : Type 0 where
  pub asked : Askable d recent n l
  pub sample : i < 2
  pub symbol : a < most_symbols
  pub room : width * (n + missing d recent (records n l)) ≤ length l
  pub small : (k : ℕ) → count_at k (sample_of i) a (records n l) ≤ longest
