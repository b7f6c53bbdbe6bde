-- What a weighing promises settles its answer and every number kept. Assumes nothing.
use mathlib.Core.Path.{◌≡◌, sym, ap₂, ◌∙◌}
use mathlib.Core.Logic.{◌≢◌}
use mathlib.Core.List.{List}
use Prim.Native.Nat.{ℕ, ◌*◌, ◌<◌}
use native.Mathlib.Omega.{arith}
use lib.ListN.{get_or}
use lib.Seq.{ext_get_or}
use Rattle.numbers.proofs.Orders.{less, same, more, order}
use Rattle.contexts.specs.Keys.{desk_of}
use Rattle.records.specs.Records.{width}
use Rattle.weighing.specs.declared.Desk.{Desk}
use Rattle.weighing.specs.declared.Least.{Least}
use Rattle.weighing.specs.Weighs.{Weighs}

-- equal numbers make equal answers
one_least : (r q : Least) → r.first ≡ q.first → r.second ≡ q.second → r.joint ≡ q.joint → r.rows ≡ q.rows → r ≡ q
one_least r q a b c d =
    ap₂ (λ (x y : ℕ). record { first = x; second = y; joint = r.joint; rows = r.rows }) a b
    ∙ ap₂ (λ (x y : ℕ). record { first = q.first; second = q.second; joint = x; rows = y }) c d

module _ (k : Desk) (n : ℕ) (l before x y : List ℕ) (r q : Least) (a : Weighs k n l before x r) (b : Weighs k n l before y q) where
  -- a number that is no decision of the desk stays
  off : (j : ℕ) → (j < n → desk_of (get_or l (width * j) 0) ≢ k.number) → get_or x j 0 ≡ get_or y j 0
  off j h = a.others_stay j h ∙ sym (b.others_stay j h)

  one_mark : (j : ℕ) → get_or x j 0 ≡ get_or y j 0
  one_mark j = elim (order j n) [
    | less lt ↦ elim (order (desk_of (get_or l (width * j) 0)) k.number) [
      | less h ↦ off j (λ g e. omega arith)
      | same e ↦ a.decided.is j lt e ∙ sym (b.decided.is j lt e)
      | more h ↦ off j (λ g e. omega arith)
    ]
    | same e ↦ off j (λ g. absurd (omega arith))
    | more h ↦ off j (λ g. absurd (omega arith))
  ]

  -- THEOREM. Whatever the promise allows has one answer, and the same numbers kept
  pub weigh_settled : (r ≡ q) × (x ≡ y)
  weigh_settled = (
    one_least r q
        (a.first_least ∙ sym b.first_least)
        (a.second_least ∙ sym b.second_least)
        (a.joint_least ∙ sym b.joint_least)
        (a.rows_are ∙ sym b.rows_are),
    ext_get_or 0 x y (a.length_stays ∙ sym b.length_stays) (λ j h. one_mark j),
  )
