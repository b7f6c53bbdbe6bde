-- Decimal digits: one digit, or those of the tenth and then the last, which is what std prints of a number. Assumes nothing.
use Prim.Native.Nat.{ℕ, zero, suc, ◌/◌, ◌%◌, ◌^◌, ◌<◌, ◌≤◌}
use native.Mathlib.Omega.{arith}
use native.Mathlib.Decide.{dec_le}
use mathlib.Core.Path.{◌≡◌, sym, ap, ◌∙◌}
use mathlib.Core.List.{List, [], ◌∷◌, ◌++◌}
use lib.IntN.{ℤ, pos, negsuc}
use borrow.Author.Tests.{lt-ltb, le-ltb}
use mir.Syntax.{w64}
use mir.Val.{SFits, to_z, of_z}
use mir.Facts.{to_z-of_z}
use Rattle.std.specs.Fmt.{decimal as std_decimal, signed_decimal}
use Rattle.std.proofs.lemmas.Fmt.{decimal_from_appends, length-decimal-le_succ}
use Rattle.printing.specs.Text.{minus, digit, spelled, decimal, signed}

spelled_small : (k n : ℕ) → n < 10 → spelled (suc k) n ≡ digit n ∷ []
unfolding spelled
spelled_small k n h = let e : n % 10 ≡ n = omega arith in rw (lt-ltb n 10 h, e)

spelled_more : (k n : ℕ) → 10 ≤ n → spelled (suc k) n ≡ spelled k (n / 10) ++ (digit (n % 10) ∷ [])
unfolding spelled
spelled_more k n h = rw (le-ltb n 10 h)

-- enough digits are enough
spelled_enough : (j k n : ℕ) → n < j → n < k → spelled j n ≡ spelled k n
spelled_enough zero k n h l = absurd (omega arith)
spelled_enough (suc j) zero n h l = absurd (omega arith)
spelled_enough (suc j) (suc k) n h l = elim (dec_le 10 n) [
  | yes m ↦ spelled_more j n m ∙ ap (λ (t : List ℕ). t ++ (digit (n % 10) ∷ [])) (spelled_enough j k (n / 10) (omega arith) (omega arith)) ∙ sym (spelled_more k n m)
  | no m ↦ spelled_small j n (omega arith) ∙ sym (spelled_small k n (omega arith))
]

pub decimal_small : (n : ℕ) → n < 10 → decimal n ≡ digit n ∷ []
decimal_small n h = spelled_small n n h

pub decimal_more : (n : ℕ) → 10 ≤ n → decimal n ≡ decimal (n / 10) ++ (digit (n % 10) ∷ [])
decimal_more n h = spelled_more n n h ∙ ap (λ (l : List ℕ). l ++ (digit (n % 10) ∷ [])) (spelled_enough n (suc (n / 10)) (n / 10) (omega arith) (omega arith))

-- what std prints of a number
pub std_digits : (n : ℕ) → n < 2 ^ 64 → std_decimal n ≡ decimal n
std_digits n h =
    sym (decimal_from_appends spelled (record { one = spelled_small; more = spelled_more }) (suc n) n h (omega (arith, length-decimal-le_succ n h)))

-- .. and of one with a sign, as the machine reads it
pub std_signed : (z : ℤ) → SFits w64 z → signed_decimal (to_z w64 (of_z w64 z)) ≡ signed z
std_signed z f = ap signed_decimal (to_z-of_z f) ∙ printed z f
  where
    printed : (y : ℤ) → SFits w64 y → signed_decimal y ≡ signed y
    printed (pos n) g = std_digits n (omega (arith, g.sfits))
    printed (negsuc n) g = ap (λ (l : List ℕ). minus ∷ l) (std_digits (suc n) (omega (arith, g.sfits)))
