-- How two numbers stand to one another, as views that tell what a test found. Assumes nothing.
use Prim.Native.Nat.{ℕ, ◌≤◌, ◌<◌}
use mathlib.Core.Path.{◌≡◌, refl, sym, subst}
use mathlib.Core.Bool.{Bool, true, false, not}
use native.Mathlib.Omega.{arith}
use lib.Dec.{T, leb, leb→le, nleb→lt, ltb, eqb, eqb→eq, eqb_refl}
use borrow.Author.Tests.{ltb-true, ltb-false}
use Rattle.numbers.proofs.Tests.{bool_ext}

-- the two ways that a comparison can go
pub data Leb (m n : ℕ) : Bool → Type 0 where
  le : m ≤ n → Leb m n true
  gt : n < m → Leb m n false

pub leb_view : (m n : ℕ) → Leb m n (leb m n)
leb_view m n = go (leb m n) (leb→le m n) (nleb→lt m n)
  where
    go : (b : Bool) → (T b → m ≤ n) → (T (not b) → n < m) → Leb m n b
    go true p q = le (p tt)
    go false p q = gt (q tt)

-- which of two numbers is the smaller
pub data Order (m n : ℕ) : Type 0 where
  less : m < n → Order m n
  same : m ≡ n → Order m n
  more : n < m → Order m n

pub order : (m n : ℕ) → Order m n
order m n = go (ltb m n) refl (ltb n m) refl
  where
    go : (p : Bool) → ltb m n ≡ p → (q : Bool) → ltb n m ≡ q → Order m n
    go true e q f = less (ltb-true m n e)
    go false e true f = more (ltb-true n m f)
    go false e false f = same (let h = ltb-false m n e in let k = ltb-false n m f in omega arith)

pub eq→eqb : (m n : ℕ) → m ≡ n → T (eqb m n)
eq→eqb m n e = subst (λ (k : ℕ). T (eqb m k)) e (eqb_refl m)

pub eqb_sym : (m n : ℕ) → eqb m n ≡ eqb n m
eqb_sym m n = bool_ext _ _ (λ h. eq→eqb n m (sym (eqb→eq m n h))) (λ h. eq→eqb m n (sym (eqb→eq n m h)))
