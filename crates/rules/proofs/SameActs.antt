-- Every complete tree counts the same acts. Assumes nothing.
use Prim.Native.Nat.{ℕ, ◌-◌}
use mathlib.Core.Path.{◌≡◌, sym, ◌∙◌}
use mathlib.Core.Bool.{◌&&◌}
use mathlib.Core.List.{List, [], reverse, reverse-reverse}
use native.Mathlib.Omega.{arith}
use borrow.Author.Tests.{lt-ltb}
use lib.ListN.{length, get_or}
use lib.Dec.{eqb, ltb}
use Rattle.contexts.specs.Counts.{N, N_placed, follows}
use Rattle.contexts.proofs.Places.{places_ext, N_placed_is_N}
use Rattle.contexts.proofs.Children.{N_children}
use Rattle.estimate.proofs.Covering.{covers}
use Rattle.rules.specs.Feed.{counted_from}
use Rattle.rules.specs.SameActs.{acts_from, SameActs}

-- the empty context stands before every place
empty_everywhere : (D : ℕ) (w : List ℕ) (a : ℕ) → N_placed D w [] a ≡ acts_from D w a
empty_everywhere D w a = places_ext (follows D w [] a) (λ i. ltb D i && eqb (get_or w (i - 1) 0) a) (length w) (λ i l u. rw (lt-ltb 0 i l))

-- THEOREM. Document 02's reason for E3
pub same_acts : SameActs
same_acts o w i t a over c =
    covers o.symbols o.depth (λ s. N (counted_from o) (w i) s a) t c (λ s l. N_children o.symbols (counted_from o) (w i) s a over (omega (arith, l)))
    ∙ sym (rw (reverse-reverse (w i)) at (N_placed_is_N o.depth (reverse (w i)) [] a))
    ∙ empty_everywhere o.depth (reverse (w i)) a
