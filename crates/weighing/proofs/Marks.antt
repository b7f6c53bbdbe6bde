-- The decisions beside the records: one is written, and one stretch of records after another. Assumes nothing.
use Prim.Native.Nat.{ℕ, ◌+◌, ◌*◌, ◌≤◌, ◌<◌}
use mathlib.Core.Path.{◌≡◌, refl, ◌∙◌}
use mathlib.Core.Bool.{Bool}
use mathlib.Core.Logic.{⊎_elim}
use mathlib.Core.List.{List}
use native.Mathlib.Omega.{arith}
use native.Mathlib.Nat.{eq-or-lt_of_le}
use lib.ListN.{length, get_or, set}
use lib.Seq.{get_or-set_same, get_or-set_other}
use Rattle.numbers.proofs.Orders.{Leb, le, gt, leb_view}
use Rattle.estimate.specs.Recursion.{losses}
use Rattle.records.specs.Records.{width, records}
use Rattle.weighing.specs.declared.Desk.{Desk}
use Rattle.weighing.specs.Sitting.{sitting_in}
use Rattle.weighing.specs.Trees.{mark_of}
use Rattle.weighing.specs.Visit.{Marked, Apart}

-- a decision is written beside a record
module _ (k : Desk) (n : ℕ) (l : List ℕ) (p q v : ℕ) (old cur : List ℕ) (long : n ≤ length cur) (here : p < n)
    (is : v ≡ mark_of k.symbols k.depth (losses (sitting_in k (records n l))) (get_or l (width * p) 0)) where
  pub written_mark : Marked k n l (p + 1) q cur → Marked k n l p q (set cur p v)
  written_mark m = record {
    is = λ j lo hi. ⊎_elim
        (λ (e : p ≡ j). rw (← e) (get_or-set_same cur p v 0 (omega arith) ∙ is))
        (λ (lt : p < j). get_or-set_other cur p j v 0 (λ e. omega arith) ∙ m.is j (omega arith) hi)
        (eq-or-lt_of_le lo);
  }

  pub written_apart : p < q → Apart (p + 1) q old cur → Apart p q old (set cur p v)
  written_apart pq m = record {
    low = λ j h. get_or-set_other cur p j v 0 (λ e. omega arith) ∙ m.low j (omega arith);
    high = λ j h. get_or-set_other cur p j v 0 (λ e. omega arith) ∙ m.high j h;
  }

pub apart_none : (p q : ℕ) (old : List ℕ) → Apart p q old old
apart_none p q old = record { low = λ j h. refl; high = λ j h. refl }

-- one stretch of records after another
pub marked_on : (k : Desk) (n : ℕ) (l : List ℕ) (lo mid hi : ℕ) (cur new : List ℕ) → Marked k n l lo mid cur → Marked k n l mid hi new → Apart mid hi cur new → Marked k n l lo hi new
marked_on k n l lo mid hi cur new m g h = record { is = λ j p q. go j p q (leb_view mid j) }
  where
    go : (j : ℕ) {b : Bool} → lo ≤ j → j < hi → Leb mid j b → get_or new j 0 ≡ mark_of k.symbols k.depth (losses (sitting_in k (records n l))) (get_or l (width * j) 0)
    go j p q (le o) = g.is j o q
    go j p q (gt o) = h.low j o ∙ m.is j p o

pub apart_on : (lo mid hi : ℕ) (old cur new : List ℕ) → lo ≤ mid → mid ≤ hi → Apart lo mid old cur → Apart mid hi cur new → Apart lo hi old new
apart_on lo mid hi old cur new p q m h = record { low = λ j o. h.low j (omega arith) ∙ m.low j o; high = λ j o. h.high j o ∙ m.high j (omega arith) }
