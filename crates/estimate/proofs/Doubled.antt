-- Weight 4 picks the triple of the doubled fit, and scores four times as much: its losses are four times those. Assumes nothing.
use Prim.Native.Nat.{ℕ, ◌+◌, ◌-◌, ◌*◌, ◌<◌}
use native.Mathlib.Nat.{add_comm}
use native.Mathlib.Omega.{arith}
use mathlib.Core.Path.{◌≡◌, sym, ap, subst, fun_ext, ◌∙◌}
use mathlib.Core.List.{List}
use lib.IntN.{ℤ, pos, ◌-ℤ◌, ◌*ℤ◌}
use lib.Dec.{lit<}
use Rattle.numbers.specs.Limits.{plain_weight}
use Rattle.logarithm.proofs.Terms.{terms_le}
use Rattle.contexts.specs.Sitting.{Sitting}
use Rattle.estimate.specs.Trees.{Kind, Triple}
use Rattle.estimate.specs.Score.{counts, size_of, terms, whole, quarter, Worths, worths, score, Best}
use Rattle.estimate.specs.Ties.{KeepsTies}
use Rattle.estimate.specs.Recursion.{Losses, spread, losses, estimate, estimate_of}
use Rattle.estimate.specs.Doubled.{doubled_worths, AsDoubled}
use Rattle.estimate.proofs.Integers.{minus, minus_add, minus_times, minus_less}
use Rattle.estimate.proofs.Loss.{loss, minus_all, score_loss}
use Rattle.estimate.proofs.Optimal.{estimate_best, score_of_lem}
use Rattle.estimate.proofs.JointTies.{estimate_keeps}
use Rattle.estimate.proofs.Unique.{only_best}
use Rattle.estimate.proofs.Scale.{scaled, estimate_scale, loss_scale}

-- what a context loses by the doubled score
abbrev doubled_losses : Sitting → Losses
doubled_losses x k s = quarter x.symbols (size_of x k) + 2 * (whole x.symbols (counts x k s) - terms x.symbols (counts x k s))

doubled_worths_lem : (x : Sitting) → doubled_worths x ≡ minus_all (doubled_losses x)
doubled_worths_lem x = fun_ext (λ k. fun_ext (λ s. one k s))
  where
    one : (k : Kind) (s : List ℕ) → doubled_worths x k s ≡ minus (doubled_losses x k s)
    one k s =
        let A = x.symbols in
        let e = counts x k s in
        let c = quarter A (size_of x k) in
        let p = 2 * (whole A e - terms A e) in
        ap (λ (z : ℤ). z -ℤ pos c) (ap (λ (z : ℤ). pos 2 *ℤ z) (minus_less (terms A e) (whole A e) (terms_le A e)) ∙ minus_times 2 (whole A e - terms A e))
        ∙ minus_add p c
        ∙ ap minus (add_comm p c)

module _ (x : Sitting) (plain : x.weight ≡ plain_weight) where
  four_losses : losses x ≡ scaled plain_weight (doubled_losses x)
  unfolding spread
  four_losses = fun_ext (λ k. fun_ext (λ s. one k s))
    where
      one : (k : Kind) (s : List ℕ) → losses x k s ≡ plain_weight * doubled_losses x k s
      one k s = rw plain (omega arith)

  same_triple : estimate_of x ≡ estimate x.symbols x.depth (doubled_losses x)
  same_triple = ap (estimate x.symbols x.depth) four_losses ∙ estimate_scale plain_weight (lit< tt) x.symbols x.depth (doubled_losses x)

  score_times : (t : Triple) → score x.symbols x.depth (worths x) t ≡ pos plain_weight *ℤ score x.symbols x.depth (doubled_worths x) t
  score_times t =
      score_of_lem x t
      ∙ ap (λ (f : Losses). minus (loss x.symbols x.depth f t)) four_losses
      ∙ ap minus (loss_scale plain_weight (lit< tt) x.symbols x.depth (doubled_losses x) t)
      ∙ sym (minus_times plain_weight (loss x.symbols x.depth (doubled_losses x) t))
      ∙ ap (λ (z : ℤ). pos plain_weight *ℤ z) (sym (score_loss x.symbols x.depth (doubled_losses x) t))
      ∙ ap (λ (w : Worths). pos plain_weight *ℤ score x.symbols x.depth w t) (sym (doubled_worths_lem x))

  -- THEOREM. At weight 4 the estimate is that of the doubled fit, and every triple scores four times as much
  pub as_doubled : 0 < x.symbols → AsDoubled x (estimate_of x)
  as_doubled p = record {
    best = subst (λ (t : Triple). Best A D (doubled_worths x) t) (sym same_triple) (subst (λ (w : Worths). Best A D w (estimate A D f)) back (estimate_best A D f p));
    ties = subst (λ (t : Triple). KeepsTies A D (doubled_worths x) t) (sym same_triple) (subst (λ (w : Worths). KeepsTies A D w (estimate A D f)) back (estimate_keeps A D f p));
    only = λ u b k.
        only_best A D f u p (subst (λ (w : Worths). Best A D w u) (doubled_worths_lem x) b) (subst (λ (w : Worths). KeepsTies A D w u) (doubled_worths_lem x) k) ∙ sym same_triple;
    four_times = score_times;
  }
    where
      A : ℕ
      A = x.symbols

      D : ℕ
      D = x.depth

      f : Losses
      f = doubled_losses x

      back : minus_all f ≡ doubled_worths x
      back = sym (doubled_worths_lem x)
