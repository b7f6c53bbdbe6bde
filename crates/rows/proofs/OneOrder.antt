-- Rows in order again are one list. Assumes nothing.
use native.Mathlib.Nat.{ℕ_set}
use native.Mathlib.Omega.{arith}
use mathlib.Core.Path.{◌≡◌, sym, ap, ap₂, ◌∙◌}
use mathlib.Core.Logic.{◌⊎◌, inl, inr, ∥∥₁_elim}
use mathlib.Core.HLevel.{hedberg, collapsible→set}
use mathlib.Core.List.Memᴰ
use mathlib.Core.List.Perm
use mathlib.Core.List.Permᴰ
use mathlib.Core.List.{List, ◌∷◌, is_set, Memᴰ, Permᴰ}
use Rattle.numbers.proofs.Orders.{less, same, more, order}
use Rattle.estimate.specs.Trees.{Kind}
use Rattle.rows.specs.Members.{number}
use Rattle.rows.specs.Rows.{Row, kind_of}
use Rattle.rows.specs.Exchange.{member_in, InOrderAgain}
use Rattle.rows.proofs.Ordering.{unique_by}
use Rattle.rows.proofs.Written.{kind_back, made}

-- ---- two rows are the same in one way only

kind_set : IsSet Kind
kind_set = hedberg (λ k l. elim (order (number k) (number l)) [
  | less h ↦ no (λ e. let f = ap number e in omega arith)
  | same e ↦ yes (sym (kind_back k) ∙ ap kind_of e ∙ kind_back l)
  | more h ↦ no (λ e. let f = ap number e in omega arith)
])

by_parts : (q r : Row) → q.kind ≡ r.kind → q.context ≡ r.context → q.counts ≡ r.counts → q ≡ r
unfolding made
by_parts q r k s c = λ i. made (k i) (s i) (c i)

row_set : IsSet Row
row_set =
    collapsible→set (λ q r e. by_parts q r (ap (λ (x : Row). x.kind) e) (ap (λ (x : Row). x.context) e) (ap (λ (x : Row). x.counts) e))
    (λ q r e f.
    ap (λ (k : q.kind ≡ r.kind). by_parts q r k (ap (λ (x : Row). x.context) e) (ap (λ (x : Row). x.counts) e)) (kind_set _ _ _ _)
    ∙ ap₂ (by_parts q r (ap (λ (x : Row). x.kind) f)) (is_set ℕ_set _ _ _ _) (is_set ℕ_set _ _ _ _))

-- ---- one list

-- what a list has, the list has in another order too
perm_mem : {X : Type 0} {x : X} {l k : List X} → Permᴰ l k → Memᴰ x l → Memᴰ x k
perm_mem Permᴰ.nil m = m
perm_mem {X} {x} (Permᴰ.cons {a} {b} {l₁} {l₂} e d) m = go (Memᴰ.cases_cons m) (perm_mem d)
  where
    go : (x ≡ a) ⊎ Memᴰ x l₁ → (Memᴰ x l₁ → Memᴰ x l₂) → Memᴰ x (b ∷ l₂)
    go (inl f) on = Memᴰ.head (f ∙ e)
    go (inr n) on = Memᴰ.tail (on n)
perm_mem {X} {x} (Permᴰ.swap {a} {b} {a'} {b'} {l} e f) m = go (Memᴰ.cases_cons m)
  where
    then : (x ≡ b) ⊎ Memᴰ x l → Memᴰ x (a' ∷ b' ∷ l)
    then (inl g) = Memᴰ.head (g ∙ f)
    then (inr n) = Memᴰ.tail (Memᴰ.tail n)

    go : (x ≡ a) ⊎ Memᴰ x (b ∷ l) → Memᴰ x (a' ∷ b' ∷ l)
    go (inl g) = Memᴰ.tail (Memᴰ.head (g ∙ e))
    go (inr n) = then (Memᴰ.cases_cons n)
perm_mem (Permᴰ.trans c d) m = perm_mem d (perm_mem c m)

-- THEOREM. There is one list of some rows, changed so, in order again
pub one_order : {change : Row → Row} {qs rs ts : List Row} → InOrderAgain change qs rs → InOrderAgain change qs ts → rs ≡ ts
one_order {change} {qs} {rs} {ts} a b =
    ∥∥₁_elim (Perm.trans (Perm.symm a.same_rows) b.same_rows) (is_set row_set rs ts)
    (λ d. unique_by member_in rs ts a.in_order b.in_order (λ r m. perm_mem d m) (λ r m. perm_mem (Permᴰ.symm d) m))
