-- Laws of sums over all strings up to a depth. Assumes nothing.
use Prim.Native.Nat.{ℕ, zero, suc, ◌+◌, ◌*◌, ◌≤◌}
use native.Mathlib.Nat.{le_refl, add-le-add, mul-le-mul}
use native.Mathlib.Omega.{arith}
use mathlib.Core.Path.{◌≡◌, refl, ap₂}
use mathlib.Core.Bool.{Bool, true, false, ◌&&◌}
use mathlib.Core.List.{List, [], ◌∷◌}
use lib.Dec.{T, eqb}
use Rattle.numbers.specs.Sum.{one, sum}
use Rattle.numbers.proofs.Orders.{eqb_sym}
use Rattle.numbers.proofs.Sums.{sum_mono, sum_cong, sum_add, sum_zero, sum_same, sum_pick}
use Rattle.contexts.specs.Context.{is_context, eqs}
use Rattle.contexts.specs.Strings.{under, total, strings}
use Rattle.contexts.proofs.Strings.{newest_below, older_context, context_cons}

pub total_root : (A d : ℕ) (g : List ℕ → ℕ) → g [] ≤ total A d g
unfolding total
total_root A zero g = le_refl (g [])
total_root A (suc d) g = omega arith

pub total_cong : (A d : ℕ) {g h : List ℕ → ℕ} → ((s : List ℕ) → g s ≡ h s) → total A d g ≡ total A d h
unfolding total
total_cong A zero e = e []
total_cong A (suc d) e = ap₂ ◌+◌ (e []) (sum_cong A (λ a l. total_cong A d (λ s. e (a ∷ s))))

-- .. at the strings that are summed is enough
pub total_within : (A d : ℕ) {g h : List ℕ → ℕ} → ((s : List ℕ) → T (is_context A d s) → g s ≡ h s) → total A d g ≡ total A d h
unfolding total is_context
total_within A zero e = e [] tt
total_within A (suc d) e = ap₂ ◌+◌ (e [] tt) (sum_cong A (λ a l. total_within A d (λ s c. e (a ∷ s) (context_cons A d a s l c))))

pub total_add : (A d : ℕ) (g h : List ℕ → ℕ) → total A d (λ s. g s + h s) ≡ total A d g + total A d h
unfolding total
total_add A zero g h = refl
total_add A (suc d) g h =
    omega (arith, sum_cong A (λ a l. total_add A d (under a g) (under a h)), sum_add A (λ a. total A d (under a g)) (λ a. total A d (under a h)))

pub total_none : (A d : ℕ) {g : List ℕ → ℕ} → ((s : List ℕ) → g s ≡ 0) → total A d g ≡ 0
unfolding total
total_none A zero e = e []
total_none A (suc d) e = omega (arith, e [], sum_zero A (λ a l. total_none A d (λ s. e (a ∷ s))))

-- where g is 0 but at the empty string
pub total_only : (A d : ℕ) (g : List ℕ → ℕ) → ((a : ℕ) (s : List ℕ) → g (a ∷ s) ≡ 0) → total A d g ≡ g []
unfolding total
total_only A zero g e = refl
total_only A (suc d) g e = omega (arith, sum_zero A (λ a l. total_none A d (λ s. e a s)))

-- one of the strings is t
pub total_one : (A d : ℕ) (t : List ℕ) → T (is_context A d t) → total A d (λ s. one (eqs t s)) ≡ 1
unfolding total is_context
total_one A d [] c = total_only A d (λ s. one (eqs [] s)) (λ a s. refl)
total_one A zero (x ∷ t) c = absurd c
total_one A (suc d) (x ∷ t) c =
    let ih = total_one A d t (older_context A d x t c) in
    let e = sum_cong A {g = λ a. 0 + one (true && eqb a x)} (λ a l. pick a (eqb x a) refl ih) in
    let f = sum_pick A x (λ a. 0) true (newest_below A d x t c) in
    let z : sum A (λ a. 0) ≡ 0 = sum_zero A (λ a l. refl) in
    omega arith
  where
    pick : (a : ℕ) (b : Bool) → eqb x a ≡ b → total A d (λ s. one (eqs t s)) ≡ 1 → total A d (λ s. one (b && eqs t s)) ≡ 0 + one (true && eqb a x)
    pick a true e ih = rw (eqb_sym a x, e) ih
    pick a false e ih = rw (eqb_sym a x, e) (total_none A d (λ s. refl))

pub total_mono : (A d : ℕ) {g h : List ℕ → ℕ} → ((s : List ℕ) → g s ≤ h s) → total A d g ≤ total A d h
unfolding total
total_mono A zero e = e []
total_mono A (suc d) e = add-le-add (e []) (sum_mono A (λ a l. total_mono A d (λ s. e (a ∷ s))))

pub total_same : (A d c : ℕ) → total A d (λ s. c) ≡ strings A d * c
unfolding total strings
total_same A zero c = omega arith
total_same A (suc d) c = omega (arith, sum_cong A {f = λ a. total A d (λ s. c)} (λ a l. total_same A d c), sum_same A (strings A d * c))

pub strings_mono : (A B d e : ℕ) → A ≤ B → d ≤ e → strings A d ≤ strings B e
unfolding strings
strings_mono A B zero zero p q = le_refl 1
strings_mono A B zero (suc e) p q = omega arith
strings_mono A B (suc d) zero p q = absurd (omega arith)
strings_mono A B (suc d) (suc e) p q = omega (arith, mul-le-mul p (strings_mono A B d e p (omega arith)))
