-- From a decision to the rows at a context and to what is wanted of its children. Assumes nothing.
use Rattle.std.specs.Prelude.{Bool, true, false, cond, not, ◌&&◌, ◌||◌, List, [], ℕ, ◌/◌, ◌%◌, eqb}
use Rattle.contexts.specs.Sitting.{first, second}
use Rattle.estimate.specs.Trees.{shared, own}
use Rattle.estimate.specs.Recursion.{Losses}
use Rattle.rows.specs.Members.{Member, member, only_if}
use Rattle.rows.specs.Walk.{owns, walk}
use Rattle.weighing.specs.declared.Mark.{Mark}
use Rattle.weighing.specs.declared.Choice.TheVariants.{Shared, Separate, Split}
use Rattle.listing.specs.declared.Way.{Way}
use Rattle.listing.specs.declared.Plan.{Plan}

-- the members that a way wants at s and below it: those of both trees together, or those of the own trees that still go on
unfoldable pub wanted : ℕ → ℕ → Losses → Way → List ℕ → List Member
wanted A d f w s = cond w.joint (walk A d f s) (owns A d f s w.first w.second)

-- something is wanted
abbrev pub goes_on : Way → Bool
goes_on w = w.joint || (w.first || w.second)

-- own trees that still go on, m and n, of which p and q split at the context
abbrev pub own_plan : Bool → Bool → Bool → Bool → Plan
own_plan m n p q = record {
  shared = false;
  first = m && not p;
  second = n && not q;
  next = record { joint = false; first = m && p; second = n && q };
}

-- the plan that a decision gives
abbrev pub plan_by : Way → Mark → Plan
plan_by w m =
    cond w.joint
    (elim m.joint [
      | Shared ↦ record { shared = true; first = false; second = false; next = record { joint = false; first = false; second = false } }
      | Separate ↦ own_plan true true m.first m.second
      | Split ↦ record { shared = false; first = false; second = false; next = record { joint = true; first = false; second = false } }
    ])
    (own_plan w.first w.second m.first m.second)

-- a decision read back: 0 shared leaf, 1 two separate trees, 2 a split of both; 3 where the first's own tree splits, 6 where the second's does
unfoldable pub plan_of : Way → ℕ → Plan
plan_of w mark =
    let p = eqb (mark / 3 % 2) 1 in
    let q = eqb (mark / 6) 1 in
    cond w.joint
    (cond (eqb (mark % 3) 0) (record { shared = true; first = false; second = false; next = record { joint = false; first = false; second = false } })
    (cond (eqb (mark % 3) 1) (own_plan true true p q)
    (record { shared = false; first = false; second = false; next = record { joint = true; first = false; second = false } })))
    (own_plan w.first w.second p q)

-- the members that a plan has at s
abbrev pub here_of : Plan → List ℕ → List Member
here_of p s = only_if p.shared (member shared s) (only_if p.first (member (own first) s) (only_if p.second (member (own second) s) []))
