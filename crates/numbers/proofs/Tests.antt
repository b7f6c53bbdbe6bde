-- Laws of tests: what follows from a test of two parts, and when two tests are equal. Assumes nothing.
use mathlib.Core.Path.{◌≡◌, refl}
use mathlib.Core.Bool.{Bool, true, false, cond, ◌&&◌, ◌||◌}
use Prim.Native.Nat.{ℕ, ◌≤◌}
use native.Mathlib.Omega.{arith}
use lib.Dec.{T}
use Rattle.numbers.specs.Sum.{one}

pub T? : (b : Bool) → Dec (T b)
T? true = yes tt
T? false = no (λ t. t)

-- two tests that pass in the same cases are equal
pub bool_ext : (a b : Bool) → (T a → T b) → (T b → T a) → a ≡ b
bool_ext true true f g = refl
bool_ext true false f g = absurd (f tt)
bool_ext false true f g = absurd (g tt)
bool_ext false false f g = refl

pub is_true : (b : Bool) → T b → b ≡ true
is_true true t = refl
is_true false t = absurd t

pub is_false : (b : Bool) → (T b → ⊥) → b ≡ false
is_false true n = absurd (n tt)
is_false false n = refl

pub of_true : (b : Bool) → b ≡ true → T b
of_true true e = tt
of_true false e = let z : ◌≡◌ {A = ℕ} 0 1 = cc in absurd (omega arith)

-- ---- both of two tests

-- no test says both
pub not_both : (b : Bool) → b ≡ true → b ≡ false → ⊥
not_both b e f = let z : ◌≡◌ {A = ℕ} 0 1 = cc in omega arith

pub both : (a b : Bool) → T a → T b → T (a && b)
both true b x y = y
both false b x y = x

pub left : (a b : Bool) → T (a && b) → T a
left true b t = tt
left false b t = t

pub right : (a b : Bool) → T (a && b) → T b
right true b t = t
right false b t = absurd t

pub and_yes : (a b : Bool) → T a → a && b ≡ b
and_yes true b t = refl
and_yes false b t = absurd t

-- ---- one of two tests

pub or_left : (a b : Bool) → T a → T (a || b)
or_left true b t = tt
or_left false b t = absurd t

pub or_right : (a b : Bool) → T b → T (a || b)
or_right true b t = tt
or_right false b t = t

pub or_rest : (a b : Bool) → T (a || b) → (T a → ⊥) → T b
or_rest true b t n = absurd (n tt)
or_rest false b t n = t

pub or_none : (a b : Bool) → (T a → ⊥) → a || b ≡ b
or_none true b n = absurd (n tt)
or_none false b n = refl

pub or_swap : (a b c : Bool) → (a || (b || c)) ≡ (b || (a || c))
or_swap true true c = refl
or_swap true false c = refl
or_swap false true c = refl
or_swap false false c = refl

-- ---- a choice by a test

-- what holds of both branches holds of the choice
pub choose : {B : Type 0} (P : B → Type 0) (b : Bool) (x y : B) → P x → P y → P (cond b x y)
choose P true x y p q = p
choose P false x y p q = q

pub choose₂ : {B C : Type 0} (P : B → C → Type 0) (b : Bool) (x y : B) (v w : C) → P x v → P y w → P (cond b x y) (cond b v w)
choose₂ P true x y v w p q = p
choose₂ P false x y v w p q = q

-- ---- a test as a number

pub one_true : (b : Bool) → T b → one b ≡ 1
one_true true t = refl
one_true false t = absurd t

pub one_false : (b : Bool) → (T b → ⊥) → one b ≡ 0
one_false true n = absurd (n tt)
one_false false n = refl

pub one_le : (b : Bool) → one b ≤ 1
one_le true = omega arith
one_le false = omega arith
