-- What a feed adds to the totals under each desk's contexts. Assumes nothing.
use mathlib.Core.Path.{◌≡◌, refl, ap, ◌∙◌}
use mathlib.Core.Bool.{Bool, true, false, ◌&&◌}
use mathlib.Core.List.{List, [], ◌∷◌}
use Prim.Native.Nat.{ℕ, ◌+◌, ◌≤◌, ◌<◌}
use native.Mathlib.Omega.{arith}
use lib.Dec.{T, eqb, eqb→eq}
use Rattle.numbers.specs.Limits.{most_symbols}
use Rattle.numbers.specs.Sum.{one}
use Rattle.numbers.proofs.Tests.{both, left, right}
use Rattle.numbers.proofs.Orders.{eqb_sym, eq→eqb}
use Rattle.numbers.proofs.Sums.{sum_cong, sum_pick}
use Rattle.contexts.specs.Context.{begins}
use Rattle.contexts.specs.Keys.{key_of}
use Rattle.contexts.specs.Sitting.{Sample, first, second, same_sample}
use Rattle.contexts.proofs.KeyOrder.{Within}
use Rattle.records.specs.Records.{lookup}
use Rattle.records.specs.Held.{count_at, Rising, Wide}
use Rattle.store.specs.Layout.{total_of}
use Rattle.changes.specs.FedStore.{fed_if}
use Rattle.changes.proofs.Whether.{count_if}

pub same_sym : (i j : Sample) → same_sample i j ≡ same_sample j i
same_sym first first = refl
same_sym first second = refl
same_sym second first = refl
same_sym second second = refl

pub regroup : (q k b e : Bool) → (q && (k && (b && e))) ≡ ((q && (k && b)) && e)
regroup true true b e = refl
regroup true false b e = refl
regroup false k b e = refl

regroup_all : (p q k b e : Bool) → (p && (q && (k && (b && e)))) ≡ ((p && (q && (k && b))) && e)
regroup_all true q k b e = regroup q k b e
regroup_all false q k b e = refl

module _ (k : Bool) (d : ℕ) (i : Sample) (a : ℕ) (r : List ℕ) (cr : Within r) (l : a < most_symbols) (rs : List (List ℕ)) (w : Wide rs) (up : Rising rs) where
  -- one more where the place is counted, it is the desk and the sample fed, and the context begins the recent symbols
  pub total_fed : (e : ℕ) (c : List ℕ) → Within c → (j : Sample)
      → total_of j (lookup (key_of e c) (fed_if k d i a r rs)) ≡ total_of j (lookup (key_of e c) rs) + one (eqb d e && (same_sample i j && (k && begins c r)))
  total_fed e c x j =
      sum_cong most_symbols {g = λ b. count_at (key_of e c) j b rs + one ((eqb d e && (same_sample i j && (k && begins c r))) && eqb b a)}
      (λ b m. count_if d i a r cr e c x k j b rs l w up
      ∙ ap (λ (t : Bool). count_at (key_of e c) j b rs + one t) (regroup_all (eqb d e) (same_sample i j) k (begins c r) (eqb a b) ∙ ap (λ (t : Bool). (eqb d e && (same_sample i j && (k && begins c r))) && t) (eqb_sym a b)))
      ∙ sum_pick most_symbols a (λ b. count_at (key_of e c) j b rs) (eqb d e && (same_sample i j && (k && begins c r))) l

-- ---- what begins the recent symbols

begins_trans : (u c r : List ℕ) → T (begins u c) → T (begins c r) → T (begins u r)
begins_trans [] c r h g = tt
begins_trans (x ∷ u) [] r h g = absurd h
begins_trans (x ∷ u) (y ∷ c) [] h g = absurd g
begins_trans (x ∷ u) (y ∷ c) (z ∷ r) h g =
    let e = eqb→eq x y (left (eqb x y) (begins u c) h) in
    let f = eqb→eq y z (left (eqb y z) (begins c r) g) in
    both (eqb x z) (begins u r) (eq→eqb x z (e ∙ f)) (begins_trans u c r (right (eqb x y) (begins u c) h) (right (eqb y z) (begins c r) g))

pub counted_trans : (k : Bool) (u c r : List ℕ) → T (begins u c) → T (k && begins c r) → T (k && begins u r)
counted_trans true u c r h g = begins_trans u c r h g
counted_trans false u c r h g = g

pub one_part : (p q b : Bool) → one (p && (q && b)) ≤ one (p && q)
one_part true true true = omega arith
one_part true true false = omega arith
one_part true false b = omega arith
one_part false q b = omega arith

-- what is seen with one more was seen before, or has the one
pub either : (m n : ℕ) (p q b g : Bool) → (0 < m → 0 < n) → (T b → T g) → 0 < m + one (p && (q && b)) → 0 < n + one (p && (q && g))
either m n true true true true h k l = omega arith
either m n true true true false h k l = absurd (k tt)
either m n true true false g h k l = omega (arith, h (omega arith))
either m n true false b g h k l = omega (arith, h (omega arith))
either m n false q b g h k l = omega (arith, h (omega arith))
