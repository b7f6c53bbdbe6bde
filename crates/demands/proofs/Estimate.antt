-- The estimate of a sitting is its joint estimate, and the only one. Assumes nothing.
use Prim.Native.Nat.{ℕ, ◌<◌}
use mathlib.Core.Path.{◌≡◌, refl, sym, ap, ap₂, ◌∙◌}
use mathlib.Core.List.{List, reverse, reverse-reverse}
use lib.Dec.{T}
use lib.IntN.{ℤ}
use Rattle.numbers.proofs.Tests.{or_left, or_right}
use Rattle.contexts.specs.Context.{is_context}
use Rattle.contexts.specs.Counts.{N, N_placed}
use Rattle.contexts.specs.Sitting.{Sample, first, Sitting}
use Rattle.contexts.proofs.Places.{N_placed_is_N}
use Rattle.estimate.specs.Trees.{Kind, shared, own, Triple, In, Admissible}
use Rattle.estimate.specs.Score.{worths, score}
use Rattle.estimate.specs.Recursion.{estimate_of}
use Rattle.estimate.proofs.Optimal.{best_of}
use Rattle.estimate.proofs.JointTies.{ties_of}
use Rattle.estimate.proofs.Unique.{only_estimate}
use Rattle.rows.specs.Rows.{Row, rows_of}
use Rattle.rows.proofs.Holding.{in_members, of_members}
use Rattle.rows.proofs.Ordering.{members_increasing}
use Rattle.replay.specs.Room.{Opening}
use Rattle.rules.specs.Feed.{counted_from}
use Rattle.rules.specs.Report.{Reported, report}
use Rattle.demands.specs.Demands.{JointEstimate, OneEstimate}

-- a context of an admissible triple is a string of at most D symbols
fits : (A D : ℕ) (t : Triple) → Admissible A D t → (k : Kind) (s : List ℕ) → In s (t k) → T (is_context A D s)
fits A D t ad shared s m = (ad.complete first).fits s (or_left (t shared s) (t (own first) s) m)
fits A D t ad (own i) s m = (ad.complete i).fits s (or_right (t shared s) (t (own i) s) m)

-- the estimate of a sitting is a joint estimate ..
pub joint_estimate : (x : Sitting) → 0 < x.symbols → JointEstimate x (report x)
joint_estimate x p =
    let best = best_of x p in
    record {
      triple = estimate_of x;
      best = best;
      ties = ties_of x p;
      rows = refl;
      each_context = λ k s. (
        λ m. (of_members x.symbols x.depth (estimate_of x) m).1,
        λ m. in_members x.symbols x.depth (estimate_of x) k s (fits x.symbols x.depth (estimate_of x) best.admissible k s m) m,
      );
      in_order = members_increasing x.symbols x.depth (estimate_of x);
      score_is = refl;
    }

-- .. and the only one
pub one_estimate : OneEstimate
one_estimate x q r p j k = ap₂ told rows (j.score_is ∙ ap (score x.symbols x.depth (worths x)) same ∙ sym k.score_is)
  where
    told : List Row → ℤ → Reported
    told rs n = record { rows = rs; score = n }

    same : j.triple ≡ k.triple
    same = only_estimate x j.triple p j.best j.ties ∙ sym (only_estimate x k.triple p k.best k.ties)

    rows : q.rows ≡ r.rows
    rows = j.rows ∙ ap (rows_of x) same ∙ sym k.rows

pub counts_by_place : (o : Opening) (w : Sample → List ℕ) (i : Sample) (s : List ℕ) (a : ℕ) → N (counted_from o) (w i) s a ≡ N_placed (counted_from o) (reverse (w i)) (reverse s) a
counts_by_place o w i s a = sym (rw (reverse-reverse (w i), reverse-reverse s) at (N_placed_is_N (counted_from o) (reverse (w i)) (reverse s) a))
