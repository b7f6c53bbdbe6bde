-- Tables of two samples by eight symbols: their sums, and that the losses worked out of a sitting's table are the sitting's. Assumes nothing.
use Prim.Native.Nat.{ℕ, ◌+◌, ◌≤◌, ◌<◌}
use native.Mathlib.Omega.{arith}
use mathlib.Core.Path.{◌≡◌, ap, ap₂, fun_ext, ◌∙◌}
use mathlib.Core.List.{List}
use lib.ListN.{get_or}
use Rattle.numbers.specs.Limits.{most_symbols}
use Rattle.numbers.specs.Sum.{sum}
use Rattle.numbers.proofs.Sums.{sum_add}
use Rattle.contexts.specs.Sitting.{Sample, first, second, Sitting, table, row_in, sum_of}
use Rattle.contexts.proofs.Tables.{table_count}
use Rattle.estimate.specs.Trees.{Kind, shared, own}
use Rattle.estimate.specs.Score.{of_kind, counts, size_of, cost}
use Rattle.estimate.specs.Recursion.{spread, losses}
use Rattle.estimate.specs.Table.{counts_in, for_kind, CostsOf, LossesOf}
use Rattle.estimate.specs.declared.ByKind.{ByKind}
use Rattle.estimate.proofs.Spreads.{spread_cong, spread_past}

-- the added counts add up to both samples' sums
pub sum_shared : (t : List (List ℕ)) → sum most_symbols (counts_in t shared) ≡ sum_of (row_in t first) + sum_of (row_in t second)
sum_shared t = sum_add most_symbols (λ a. get_or (row_in t first) a 0) (λ a. get_or (row_in t second) a 0)

-- ---- of a sitting's table

pub kind_cong : (k : Kind) {g h : Sample → ℕ} → ((i : Sample) → g i ≡ h i) → of_kind k g ≡ of_kind k h
kind_cong shared e = ap₂ ◌+◌ (e first) (e second)
kind_cong (own i) e = e i

-- a kind's length goes by the samples' lengths alone, whatever it is of them: so no more of `size_of` is used here
pub size_cong : (x y : Sitting) (k : Kind) → ((i : Sample) → x.size i ≡ y.size i) → size_of x k ≡ size_of y k
size_cong x y k e = ap (λ (n : Sample → ℕ). size_of (record { symbols = x.symbols; depth = x.depth; weight = x.weight; size = n; count = x.count }) k) (fun_ext e)

pub table_counts : (x : Sitting) (s : List ℕ) (k : Kind) (a : ℕ) → a < most_symbols → counts_in (table x s) k a ≡ counts x k s a
table_counts x s k a l = kind_cong k (λ i. table_count x s i a l)

-- the counts of a kind are 0 where both samples' are
pub kind_none : (x : Sitting) (k : Kind) (s : List ℕ) (a : ℕ) → ((i : Sample) → x.count i s a ≡ 0) → counts x k s a ≡ 0
kind_none x shared s a e = omega (arith, e first, e second)
kind_none x (own i) s a e = e i

-- THEOREM. The code's losses of a context's table are the model's
pub table_losses : (x : Sitting) (s : List ℕ) (costs r : ByKind) → x.symbols ≤ most_symbols → ((i : Sample) (a : ℕ) → x.symbols ≤ a → x.count i s a ≡ 0)
    → CostsOf x.weight x.symbols (x.size first) (x.size second) costs → LossesOf (table x s) costs r → (k : Kind) → for_kind r k ≡ losses x k s
table_losses x s costs r few none p l k =
    each k ∙ ap₂ ◌+◌ (price k) (spread_cong most_symbols (table_counts x s k) ∙ spread_past x.symbols most_symbols (counts x k s) few (λ a h. kind_none x k s a (λ i. none i a h)))
  where
    price : (k : Kind) → for_kind costs k ≡ cost x.weight x.symbols (size_of x k)
    price shared = p.shared
    price (own first) = p.first
    price (own second) = p.second

    each : (k : Kind) → for_kind r k ≡ for_kind costs k + spread most_symbols (counts_in (table x s) k)
    each shared = l.shared
    each (own first) = l.first
    each (own second) = l.second
