-- Rows read back from their numbers. Assumes nothing.
use Prim.Native.Nat.{ℕ, zero, suc, ◌≤◌}
use native.Mathlib.Omega.{arith}
use mathlib.Core.Path.{◌≡◌, refl, ap, ap₂, ◌∙◌}
use mathlib.Core.List.{List, [], ◌∷◌, ◌++◌, map, append_assoc, Memᴰ}
use lib.ListN.{length, take, drop}
use lib.Seq.{take_at, drop_at}
use lib.Dec.{T}
use Rattle.numbers.specs.Limits.{most_symbols, deepest, row_width}
use Rattle.contexts.specs.Context.{is_context}
use Rattle.contexts.specs.Sitting.{first, second, Sitting}
use Rattle.contexts.proofs.Strings.{context_more}
use Rattle.contexts.proofs.Codes.{decoded_code}
use Rattle.estimate.specs.Trees.{Kind, shared, own, Triple}
use Rattle.rows.specs.Members.{Member, number, members}
use Rattle.rows.specs.Rows.{Row, row_of, rows_of, numbers_of, sheet_of, kind_of, read_row, read_rows}
use Rattle.rows.proofs.Holding.{of_members}

-- ---- reading back

-- as many rows are read as are asked for
pub rows_read : (n : ℕ) (l : List ℕ) → n ≡ length (read_rows n l)
unfolding read_rows
rows_read zero l = refl
rows_read (suc n) l = ap suc (rows_read n (drop row_width l))

-- a row within document 01's limits
pub record Fits (r : Row) : Type 0 where
  pub context : T (is_context most_symbols deepest r.context)
  pub counts : length r.counts ≡ most_symbols

pub kind_back : (k : Kind) → kind_of (number k) ≡ k
kind_back shared = refl
kind_back (own first) = refl
kind_back (own second) = refl

unfoldable pub made : Kind → List ℕ → List ℕ → Row
made k s c = record { kind = k; context = s; counts = c }

-- THEOREM. A row's eleven numbers, whatever follows them, read back as the row
pub read_back : (r : Row) (rest : List ℕ) → Fits r → read_row (numbers_of r ++ rest) ≡ r
unfolding made
read_back r rest f =
    ap₂ (λ (k : Kind) (s : List ℕ). made k s (take most_symbols (r.counts ++ rest))) (kind_back r.kind) (decoded_code deepest r.context f.context)
    ∙ ap (made r.kind r.context) (take_at r.counts rest most_symbols f.counts)

-- every row of a list is within the limits
abbrev pub AllFit : List Row → Type 0
AllFit [] = Unit {0}
AllFit (r ∷ rs) = Fits r × AllFit rs

-- THEOREM. .. and so do rows that stand one after another
pub read_all : (rs : List Row) (rest : List ℕ) → AllFit rs → read_rows (length rs) (sheet_of rs ++ rest) ≡ rs
unfolding read_rows sheet_of
read_all [] rest f = refl
read_all (r ∷ rs) rest f =
    ap (read_rows (suc (length rs))) (append_assoc (numbers_of r) (sheet_of rs) rest)
    ∙ ap₂ {C = List Row} (λ (q : Row) (qs : List Row). q ∷ qs) (read_back r (sheet_of rs ++ rest) f.0)
    (ap (read_rows (length rs)) (drop_at (numbers_of r) (sheet_of rs ++ rest) row_width (let e = f.0.counts in omega arith)) ∙ read_all rs rest f.1)

-- THEOREM. The rows of a triple are within the limits, so what is written of them reads back
pub rows_fit : (x : Sitting) (t : Triple) → x.symbols ≤ most_symbols → x.depth ≤ deepest → AllFit (rows_of x t)
rows_fit x t p q = each (members x.symbols x.depth t) (λ r m. (of_members x.symbols x.depth t m).0)
  where
    each : (ps : List Member) → ((r : Member) → Memᴰ r ps → T (is_context x.symbols x.depth r.context)) → AllFit (map (row_of x) ps)
    each [] h = tt
    each (r ∷ ps) h = (
      record { context = context_more x.symbols most_symbols x.depth deepest r.context p q (h r (Memᴰ.head refl)); counts = refl },
      each ps (λ u m. h u (Memᴰ.tail m)),
    )
