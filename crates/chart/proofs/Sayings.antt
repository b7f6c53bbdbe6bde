-- What the chart of a sitting says of its two samples, where no total passes the limit. Assumes nothing.
use Prim.Native.Nat.{ℕ, ◌≤◌, ◌<◌}
use native.Mathlib.Omega.{arith}
use mathlib.Core.Path.{◌≡◌, refl}
use mathlib.Core.Bool.{Bool, true, false}
use mathlib.Core.List.{List}
use lib.Dec.{ltb}
use borrow.Author.Tests.{ltb-true, ltb-false}
use Rattle.numbers.specs.Limits.{most_counted}
use Rattle.contexts.specs.Sitting.{Sample, first, second, Sitting, total_in}
use Rattle.chart.specs.Share.{share}
use Rattle.chart.specs.Answer.{told, answer, chart_of}
use Rattle.chart.specs.Says.{NotSeen, ShareIn, ChartSays}
use Rattle.chart.proofs.Shares.{share_proper, sitting_charted}

-- ---- a context and a symbol of a sitting
module _ (x : Sitting) (s : List ℕ) (a : ℕ) (below : a < x.symbols) (most : (i : Sample) → total_in x i s ≤ most_counted) where
  share_in : (i : Sample) → ltb 0 (total_in x i s) ≡ true → ShareIn x i s a (share (x.count i s a) (total_in x i s))
  share_in i e =
      let seen = ltb-true 0 (total_in x i s) e in
      record { seen = seen; quotient = refl; proper = share_proper (sitting_charted x i s a below seen (most i)) }

  not_seen : (i : Sample) → ltb 0 (total_in x i s) ≡ false → NotSeen x i s
  not_seen i e = let none = ltb-false 0 (total_in x i s) e in omega arith

  -- THEOREM. The chart tells which samples saw the context, with the symbol's share in each that did
  pub chart_says : ChartSays x s a (chart_of x s a)
  unfolding answer
  chart_says = go (ltb 0 (total_in x first s)) refl (ltb 0 (total_in x second s)) refl
    where
      go : (t : Bool) → ltb 0 (total_in x first s) ≡ t → (u : Bool) → ltb 0 (total_in x second s) ≡ u
          → ChartSays x s a (told t u (share (x.count first s a) (total_in x first s)) (share (x.count second s a) (total_in x second s)))
      go false e false f = (not_seen first e, not_seen second f)
      go true e false f = (share_in first e, not_seen second f)
      go false e true f = (not_seen first e, share_in second f)
      go true e true f = record { first_share = share_in first e; second_share = share_in second f; difference = refl }
