-- The plan of a decision read back from its number is the plan of the number. Assumes nothing.
use Prim.Native.Nat.{ℕ, ◌/◌, ◌%◌}
use mathlib.Core.Path.{◌≡◌, refl}
use mathlib.Core.Bool.{Bool, true, false, cond}
use lib.Dec.{eqb}
use Rattle.weighing.specs.declared.Choice.TheVariants.{Shared, Separate, Split}
use Rattle.weighing.specs.Marks.{mark_in}
use Rattle.listing.specs.declared.Way.{Way}
use Rattle.listing.specs.Plans.{own_plan, plan_by, plan_of}

pub plan_in : (w : Way) (n : ℕ) → plan_by w (mark_in n) ≡ plan_of w n
unfolding plan_of
plan_in w n = go (eqb (n % 3) 0) (eqb (n % 3) 1)
  where
    p : Bool
    p = eqb (n / 3 % 2) 1

    q : Bool
    q = eqb (n / 6) 1

    go : (x y : Bool) → plan_by w (record { joint = cond x Shared (cond y Separate Split); first = p; second = q })
        ≡ cond w.joint
        (cond x (record { shared = true; first = false; second = false; next = record { joint = false; first = false; second = false } })
        (cond y (own_plan true true p q)
        (record { shared = false; first = false; second = false; next = record { joint = true; first = false; second = false } })))
        (own_plan w.first w.second p q)
    go true y = refl
    go false true = refl
    go false false = refl
