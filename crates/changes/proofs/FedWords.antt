-- Records that are fed stay numbers of 32 bits: their keys are small, and a count that is raised was. Assumes nothing.
use mathlib.Core.Path.{◌≡◌}
use mathlib.Core.Bool.{Bool, true, false, cond}
use mathlib.Core.List.{List, [], ◌∷◌}
use Prim.Native.Nat.{ℕ, zero, suc, ◌+◌, ◌^◌, ◌≤◌, ◌<◌}
use native.Mathlib.Omega.{arith}
use lib.Dec.{ltb, eqb, lit<}
use lib.ListN.{length, take, get_or, set}
use Rattle.numbers.specs.Limits.{most_symbols, deepest, desks}
use Rattle.numbers.proofs.Lists.{zeros_at}
use Rattle.contexts.specs.Keys.{key_of}
use Rattle.contexts.specs.Sitting.{Sample, first, second}
use Rattle.contexts.proofs.KeyOrder.{Within, context_key_lt}
use Rattle.contexts.proofs.Followed.{context_take}
use Rattle.records.specs.Records.{key, blank}
use Rattle.records.specs.Bumped.{cell_of, raised, bumped_at, Cell}
use Rattle.records.specs.Fed.{fed_to}
use Rattle.changes.specs.Words.{Words}
use Rattle.changes.proofs.Words.{words_set, words_zeros, AllWords}

-- ---- a cell

-- a cell is at most B in each record
abbrev pub Cells : ℕ → ℕ → List (List ℕ) → Type 0
Cells c B [] = Unit {0}
Cells c B (r ∷ rs) = (get_or r c 0 ≤ B) × Cells c B rs

pub cells_of : (c B : ℕ) (rs : List (List ℕ)) → ((n : ℕ) → n < length rs → get_or (get_or rs n []) c 0 ≤ B) → Cells c B rs
cells_of c B [] h = tt
cells_of c B (r ∷ rs) h = (h 0 (omega arith), cells_of c B rs (λ n l. h (suc n) (omega arith)))

cells_more : (c B : ℕ) (rs : List (List ℕ)) → Cells c B rs → Cells c (B + 1) rs
cells_more c B [] h = tt
cells_more c B (r ∷ rs) h = (omega (arith, h.0), cells_more c B rs h.1)

-- a record with one more there
raised_cell : (r : List ℕ) (c B : ℕ) → get_or r c 0 ≤ B → get_or (raised c r) c 0 ≤ B + 1
raised_cell r c B h = go r c (get_or r c 0 + 1) (omega arith) (omega arith)
  where
    go : (l : List ℕ) (i v : ℕ) → get_or l i 0 ≤ B + 1 → v ≤ B + 1 → get_or (set l i v) i 0 ≤ B + 1
    go [] i v p q = p
    go (x ∷ l) zero v p q = q
    go (x ∷ l) (suc i) v p q = go l i v p q

blank_cell : (k c : ℕ) → Cell c → get_or (blank k) c 0 ≡ 0
blank_cell k zero h = absurd (omega (arith, h.after_key))
blank_cell k (suc c) h = zeros_at 23 c

-- ---- one count more under a key

module _ (k c B : ℕ) (cell : Cell c) (small : k < 2 ^ 32) (few : B + 1 < 2 ^ 32) where
  fresh_words : Words (raised c (blank k))
  fresh_words = words_set (blank k) c (get_or (blank k) c 0 + 1) (rw (blank_cell k c cell) (lit< tt)) (small, words_zeros 23)

  pub words_bumped : (rs : List (List ℕ)) → AllWords rs → Cells c B rs → AllWords (bumped_at k c rs) × Cells c (B + 1) (bumped_at k c rs)
  unfolding bumped_at
  words_bumped [] w h = ((fresh_words, tt), (raised_cell (blank k) c B (omega (arith, blank_cell k c cell)), tt))
  words_bumped (r ∷ rs) w h = go (ltb (key r) k) (eqb (key r) k) (words_bumped rs w.1 h.1)
    where
      go : (below here : Bool) → AllWords (bumped_at k c rs) × Cells c (B + 1) (bumped_at k c rs)
          → AllWords (cond below (r ∷ bumped_at k c rs) (cond here (raised c r ∷ rs) (raised c (blank k) ∷ r ∷ rs)))
          × Cells c (B + 1) (cond below (r ∷ bumped_at k c rs) (cond here (raised c r ∷ rs) (raised c (blank k) ∷ r ∷ rs)))
      go true here rest = ((w.0, rest.0), (omega (arith, h.0), rest.1))
      go false true rest = ((words_set r c (get_or r c 0 + 1) (omega (arith, h.0)) w.0, w.1), (raised_cell r c B h.0, cells_more c B rs h.1))
      go false false rest = ((fresh_words, w), (raised_cell (blank k) c B (omega (arith, blank_cell k c cell)), cells_more c B (r ∷ rs) h))

-- ---- a feed

cell_there : (i : Sample) (a : ℕ) → a < most_symbols → Cell (cell_of i a)
cell_there first a l = record { after_key = omega arith; inside = omega arith }
cell_there second a l = record { after_key = omega arith; inside = omega arith }

key_word : (d : ℕ) (s : List ℕ) → d < desks → Within s → key_of d s < 2 ^ 32
key_word d s l w = omega (arith, context_key_lt s w)

module _ (d : ℕ) (near : d < desks) (i : Sample) (a : ℕ) (l : a < most_symbols) (recent : List ℕ) (within : Within recent) (B : ℕ) (rs : List (List ℕ)) where
  -- THEOREM. Records of numbers of 32 bits, whose counts are small, are such when they are fed
  pub words_fed : (j : ℕ) → B + j < 2 ^ 32 → AllWords rs → Cells (cell_of i a) B rs → AllWords (fed_to j d i a recent rs) × Cells (cell_of i a) (B + j) (fed_to j d i a recent rs)
  unfolding fed_to
  words_fed zero few w h = (w, let e : B + 0 ≡ B = omega arith in rw e h)
  words_fed (suc j) few w h =
      let before = words_fed j (omega arith) w h in
      let e : B + suc j ≡ (B + j) + 1 = omega arith in
      let small = key_word d (take j recent) near (context_take most_symbols deepest j recent within) in
      rw e (words_bumped (key_of d (take j recent)) (cell_of i a) (B + j) (cell_there i a l) small (omega arith) (fed_to j d i a recent rs) before.0 before.1)
