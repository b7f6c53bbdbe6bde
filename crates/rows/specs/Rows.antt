-- The rows of a report (document 01, "Report rows"). Assumes nothing.
use Rattle.std.specs.Prelude.{ℕ, zero, suc, ◌≤◌, ◌≡◌, length, get_or, take, drop, ℤ, pos, ◌+ℤ◌}
use mathlib.Core.List.{List, [], ◌∷◌, ◌++◌, map, Memᴰ}
use Rattle.numbers.specs.Limits.{most_symbols, row_width}
use Rattle.contexts.specs.Context.{code_of, decoded}
use Rattle.contexts.specs.Sitting.{first, second, Sitting, eight}
use Rattle.estimate.specs.Trees.{Kind, shared, own, Triple}
use Rattle.estimate.specs.Score.{counts, worths}
use Rattle.estimate.specs.Recursion.{estimate_of}
use Rattle.rows.specs.Members.{Member, number, members}

pub record Row : Type 0 where
  pub kind : Kind
  pub context : List ℕ
  -- the eight counts
  pub counts : List ℕ

-- "a shared row has the added counts, an own row those of its sample"
abbrev pub row_of : Sitting → Member → Row
row_of x p = record { kind = p.kind; context = p.context; counts = eight (counts x p.kind p.context) }

-- "eight counts (0 for symbols from A up ..)": so it is in each of some rows
abbrev pub ZeroFrom : ℕ → List Row → Type 0
ZeroFrom A rs = (r : Row) → Memᴰ r rs → (a : ℕ) → A ≤ a → get_or r.counts a 0 ≡ 0

-- the rows of a triple, in order
abbrev pub rows_of : Sitting → Triple → List Row
rows_of x t = map (row_of x) (members x.symbols x.depth t)

-- the rows of a sitting's report
abbrev pub report_of : Sitting → List Row
report_of x = rows_of x (estimate_of x)

-- "kind .., length, code, eight counts"
abbrev pub numbers_of : Row → List ℕ
numbers_of r = number r.kind ∷ length r.context ∷ code_of r.context ∷ r.counts

-- rows one after another, as they stand on a sheet
unfoldable pub sheet_of : List Row → List ℕ
sheet_of [] = []
sheet_of (r ∷ rs) = numbers_of r ++ sheet_of rs

-- eleven numbers read back as a row
abbrev pub kind_of : ℕ → Kind
kind_of zero = shared
kind_of (suc zero) = own first
kind_of (suc (suc n)) = own second

abbrev pub read_row : List ℕ → Row
read_row l = record { kind = kind_of (get_or l 0 0); context = decoded (get_or l 1 0) (get_or l 2 0); counts = take most_symbols (drop 3 l) }

-- n rows read back
unfoldable pub read_rows : ℕ → List ℕ → List Row
read_rows zero l = []
read_rows (suc n) l = read_row l ∷ read_rows n (drop row_width l)

-- the score of a list of members: the sum of their fits less their costs
unfoldable pub score_of : Sitting → List Member → ℤ
score_of x [] = pos 0
score_of x (p ∷ ps) = worths x p.kind p.context +ℤ score_of x ps
