-- The promise of the leaf that seeks records settles its answer. Assumes nothing.
use mathlib.Core.Path.{◌≡◌, sym, ◌∙◌}
use mathlib.Core.List.{List}
use Prim.Native.Nat.{ℕ, min, ◌≤◌, ◌<◌}
use native.Mathlib.Omega.{arith}
use lib.ListN.{length, take, get_or}
use lib.Seq.{ext_get_or}
use Rattle.numbers.proofs.Tests.{not_both}
use Rattle.numbers.proofs.Orders.{less, same, more, order}
use Rattle.contexts.specs.Keys.{key_of}
use Rattle.records.specs.Held.{held}
use Rattle.records.specs.Located.{Located, Seeks}

module _ (d : ℕ) (r : List ℕ) (rs : List (List ℕ)) where
  -- the first context that is missing is no shorter than another that is
  no_shorter : (m n : ℕ) (p q : List ℕ) → Located d r rs m p → Located d r rs n q → m < n → ⊥
  no_shorter m n p q a b h = not_both (held (key_of d (take m r)) rs) (b.are_held m h) (a.next_missing (omega (arith, b.within)))

  one_found : (m n : ℕ) (p q : List ℕ) → Located d r rs m p → Located d r rs n q → m ≡ n
  one_found m n p q a b = elim (order m n) [
    | less h ↦ absurd (no_shorter m n p q a b h)
    | same e ↦ e
    | more h ↦ absurd (no_shorter n m q p b a h)
  ]

  one_place : (m : ℕ) (p q : List ℕ) → Seeks d r rs m p → Seeks d r rs m q → (j : ℕ) → get_or p j 0 ≡ get_or q j 0
  one_place m p q a b j = elim (order (min m (length r)) j) [
    | less h ↦ a.others j h ∙ sym (b.others j h)
    | same e ↦ stood (omega arith) (omega arith)
    | more h ↦ stood (omega arith) (omega arith)
  ]
    where
      stood : j ≤ m → j ≤ length r → get_or p j 0 ≡ get_or q j 0
      stood h g = a.located.stand_at j h g ∙ sym (b.located.stand_at j h g)

  -- THEOREM. Whatever the promise allows has found as many, and has the same seven places
  pub seek_settled : (m n : ℕ) (p q : List ℕ) → Seeks d r rs m p → Seeks d r rs n q → (m ≡ n) × (p ≡ q)
  seek_settled m n p q a b =
      let e = one_found m n p q a.located b.located in
      let b' : Seeks d r rs m q = rw e b in
      (e, ext_get_or 0 p q (a.seven ∙ sym b.seven) (λ j h. one_place m p q a b' j))
