-- PROPOSITION 1 of the source, with complete trees: the estimate is admissible, and no admissible triple within the depth scores more.
-- Assumes nothing.
use Prim.Native.Nat.{ℕ, ◌<◌}
use native.Mathlib.Omega.{arith}
use mathlib.Core.Path.{◌≡◌, sym, subst, ap, ◌∙◌}
use Rattle.contexts.specs.Sitting.{Sitting}
use Rattle.estimate.specs.Trees.{Triple}
use Rattle.estimate.specs.Score.{Worths, worths, score, Best}
use Rattle.estimate.specs.Recursion.{Losses, losses, joint, estimate, estimate_of}
use Rattle.estimate.proofs.Integers.{minus}
use Rattle.estimate.proofs.Loss.{loss, minus_all, worths_losses, score_loss, more_score}
use Rattle.estimate.proofs.Least.{joint_least}
use Rattle.estimate.proofs.Choice.{estimate_admissible, estimate_loss}

pub estimate_best : (A D : ℕ) (f : Losses) → 0 < A → Best A D (minus_all f) (estimate A D f)
estimate_best A D f p =
    record {
      admissible = estimate_admissible A D f p;
      most = λ u c. more_score A D f u (estimate A D f) (omega (arith, joint_least A D f u c, estimate_loss A D f));
    }

-- THEOREM, of a sitting: with the documents' fits and costs
pub best_of : (x : Sitting) → 0 < x.symbols → Best x.symbols x.depth (worths x) (estimate_of x)
best_of x p =
    subst (λ (w : Worths). Best x.symbols x.depth w (estimate_of x)) (sym (worths_losses x)) (estimate_best x.symbols x.depth (losses x) p)

-- the score of any triple is its loss with a minus sign, and that of the estimate is what the recursion works out at the root
pub score_of_lem : (x : Sitting) (t : Triple) → score x.symbols x.depth (worths x) t ≡ minus (loss x.symbols x.depth (losses x) t)
score_of_lem x t = ap (λ (w : Worths). score x.symbols x.depth w t) (worths_losses x) ∙ score_loss x.symbols x.depth (losses x) t

pub score_estimate : (x : Sitting) → score x.symbols x.depth (worths x) (estimate_of x) ≡ minus (joint x.symbols x.depth (losses x))
score_estimate x = score_of_lem x (estimate_of x) ∙ ap minus (estimate_loss x.symbols x.depth (losses x))
