-- The rows of a sitting that counts no symbol from A up have 0 there. Assumes nothing.
use Prim.Native.Nat.{ℕ, ◌≤◌}
use mathlib.Core.Path.{◌≡◌, subst}
use mathlib.Core.List.Memᴰ
use mathlib.Core.List.{List}
use lib.ListN.{get_or}
use Rattle.contexts.specs.Sitting.{Sample, Sitting}
use Rattle.contexts.proofs.Tables.{eight_zero}
use Rattle.estimate.specs.Trees.{Triple}
use Rattle.estimate.specs.Score.{counts}
use Rattle.estimate.proofs.Tables.{kind_none}
use Rattle.rows.specs.Members.{Member, members}
use Rattle.rows.specs.Rows.{Row, row_of, ZeroFrom, rows_of}

-- ---- no sample counts a symbol from A up
module _ (x : Sitting) (none : (i : Sample) (s : List ℕ) (a : ℕ) → x.symbols ≤ a → x.count i s a ≡ 0) where
  row_zero : (p : Member) (a : ℕ) → x.symbols ≤ a → get_or (row_of x p).counts a 0 ≡ 0
  row_zero p a h = eight_zero (counts x p.kind p.context) a (kind_none x p.kind p.context a (λ i. none i p.context a h))

  -- THEOREM. The rows of any triple have 0 for symbols from A up
  pub rows_zero : (t : Triple) → ZeroFrom x.symbols (rows_of x t)
  rows_zero t r m a h =
      let y = Memᴰ.of_map (row_of x) (members x.symbols x.depth t) m in
      subst (λ (q : Row). get_or q.counts a 0 ≡ 0) y.2 (row_zero y.0 a h)
