-- Quotients of two whole numbers in a float format: the casts are exact, and the quotient is the fraction rounded once. Assumes nothing.
use mathlib.Core.Path.{◌≡◌, sym, ◌∙◌}
use mathlib.Core.Bool.{true, false, true≢false}
use Prim.Native.Nat.{ℕ, ◌*◌, ◌^◌, ◌≤◌, ◌<◌}
use native.Mathlib.Nat.{mul-one, mul_comm, mul_assoc, mul_left_comm, mul-pos}
use native.Mathlib.Omega.{arith}
use lib.Dec.{ltb→lt}
use lib.IntN.{pos}
use lib.Ieee.{Float, nan, inf, fin, Format, prec, up, down, round, of_int, div}
use lib.Ieee.Fits.{up_pos, down_pos}
use lib.Ieee.Exact.{HasValue}
use lib.Ieee.Back.{round_whole}
use lib.Ieee.Scale.{round_same}
use lib.Ieee.Positive.{positive_of_value}
use borrow.Author.Tests.{ne_eqb}

cross : (x y a b u v : ℕ) → x * 1 ≡ a * u → y * 1 ≡ b * v → x * v * b ≡ a * (y * u)
cross x y a b u v p q = simp (sym (mul-one x) ∙ p, sym (mul-one y) ∙ q, mul_assoc, mul_comm, mul_left_comm)

-- the quotient of two values that are whole numbers a and b is a / b, rounded once
div_at : (f : Format) (x y : Float) (a b : ℕ) → HasValue x false a 1 → HasValue y false b 1 → 0 < b → div f x y ≡ round f false a b
unfolding div
div_at f nan y a b p q B = absurd p
div_at f (inf s) y a b p q B = absurd p
div_at f (fin s m e) nan a b p q B = absurd q
div_at f (fin s m e) (inf t) a b p q B = absurd q
div_at f (fin true m e) (fin t n d) a b p q B = absurd (true≢false p.0)
div_at f (fin false m e) (fin true n d) a b p q B = absurd (true≢false q.0)
div_at f (fin false m e) (fin false n d) a b p q B =
    let N : 0 < n = ltb→lt 0 n (positive_of_value (fin false n d) b 1 q B) in
    rw (ne_eqb n 0 (λ z. omega arith))
    (round_same f false (m * up e * down d) (n * up d * down e) a b (mul-pos (mul-pos N (up_pos d)) (down_pos e)) B
    (cross (m * up e) (n * up d) a b (down e) (down d) p.1 q.1))

-- a whole number that a format counts without a gap is cast exactly
pub cast_exact : (f : Format) (n : ℕ) → n ≤ 2 ^ prec f → HasValue (of_int f (pos n)) false n 1
unfolding of_int
cast_exact f n h = round_whole f false n h

-- two exact casts and one division: the fraction, rounded once
pub quotient_is : (f : Format) (a b : ℕ) → a ≤ 2 ^ prec f → b ≤ 2 ^ prec f → 0 < b → div f (of_int f (pos a)) (of_int f (pos b)) ≡ round f false a b
quotient_is f a b A B P = div_at f (of_int f (pos a)) (of_int f (pos b)) a b (cast_exact f a A) (cast_exact f b B) P
