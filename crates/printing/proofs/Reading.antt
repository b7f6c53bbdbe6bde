-- Texts read back: two numbers with one text are equal, and so are two lines. Assumes nothing.
use Prim.Native.Nat.{ℕ, zero, suc, ◌+◌, ◌*◌, ◌-◌, ◌/◌, ◌%◌, ◌<◌, ◌≤◌}
use native.Mathlib.Omega.{arith}
use native.Mathlib.Decide.{dec_le}
use mathlib.Core.Path.{◌≡◌, refl, sym, ap, ap₂, subst, ◌∙◌}
use mathlib.Core.List.{List, [], ◌∷◌, ◌++◌}
use lib.IntN.{ℤ, pos, negsuc}
use lib.ListN.{length, length-append}
use Rattle.printing.specs.Text.{line_feed, space, minus, digit, spelled, decimal, signed, line_of}
use Rattle.printing.proofs.Decimals.{decimal_small, decimal_more}

-- the number whose digits are l, after those of v
abbrev value : ℕ → List ℕ → ℕ
value v [] = v
value v (x ∷ l) = value (10 * v + (x - 48)) l

value_last : (v : ℕ) (l : List ℕ) (x : ℕ) → value v (l ++ (x ∷ [])) ≡ 10 * value v l + (x - 48)
value_last v [] x = refl
value_last v (y ∷ l) x = value_last (10 * v + (y - 48)) l x

-- n, which is below k, read back from its digits
read_back : (k n : ℕ) → n < k → value 0 (decimal n) ≡ n
read_back zero n h = absurd (omega arith)
read_back (suc k) n h = elim (dec_le 10 n) [
  | yes m ↦
      ap (value 0) (decimal_more n m) ∙ value_last 0 (decimal (n / 10)) (digit (n % 10))
      ∙ (let ih : value 0 (decimal (n / 10)) ≡ n / 10 = read_back k (n / 10) (omega arith) in omega arith)
  | no m ↦ ap (value 0) (decimal_small n (omega arith)) ∙ (omega arith)
]

-- THEOREM. Two numbers with one text are equal
pub decimal_injective : (m n : ℕ) → decimal m ≡ decimal n → m ≡ n
decimal_injective m n e = sym (read_back (suc m) m (omega arith)) ∙ ap (value 0) e ∙ read_back (suc n) n (omega arith)

-- ---- lines

-- every byte is above b
abbrev Above : ℕ → List ℕ → Type 0
Above b [] = Unit {0}
Above b (x ∷ l) = (b < x) × Above b l

above_append : (b : ℕ) (l m : List ℕ) → Above b l → Above b m → Above b (l ++ m)
above_append b [] m p q = q
above_append b (x ∷ l) m p q = (p.0, above_append b l m p.1 q)

above_less : (b c : ℕ) (l : List ℕ) → b ≤ c → Above c l → Above b l
above_less b c [] h p = tt
above_less b c (x ∷ l) h p = (omega (arith, p.0), above_less b c l h p.1)

digits_above : (k n : ℕ) → n < k → Above 47 (decimal n)
digits_above zero n h = absurd (omega arith)
digits_above (suc k) n h = elim (dec_le 10 n) [
  | yes m ↦ rw (decimal_more n m) (above_append 47 (decimal (n / 10)) (digit (n % 10) ∷ []) (digits_above k (n / 10) (omega arith)) (omega arith, tt))
  | no m ↦ rw (decimal_small n (omega arith)) (omega arith, tt)
]

decimal_above : (n : ℕ) → Above 47 (decimal n)
decimal_above n = digits_above (suc n) n (omega arith)

-- no byte of a number is a blank or a line feed
signed_above : (z : ℤ) → Above space (signed z)
signed_above (pos n) = above_less space 47 (decimal n) (omega arith) (decimal_above n)
signed_above (negsuc n) = (omega arith, above_less space 47 (decimal (suc n)) (omega arith) (decimal_above (suc n)))

-- texts are parted where the first byte that is not above b stands
parts : (b : ℕ) (p q : List ℕ) (s t : ℕ) (l m : List ℕ) → Above b p → Above b q → s ≤ b → t ≤ b → p ++ (s ∷ l) ≡ q ++ (t ∷ m) → (p ≡ q) × (s ≡ t) × (l ≡ m)
parts b [] [] s t l m f g h k e = (refl, cc, cc)
parts b [] (y ∷ q) s t l m f g h k e = let z : s ≡ y = cc in absurd (omega (arith, g.0))
parts b (x ∷ p) [] s t l m f g h k e = let z : x ≡ t = cc in absurd (omega (arith, f.0))
parts b (x ∷ p) (y ∷ q) s t l m f g h k e =
    let z : x ≡ y = cc in
    let r = parts b p q s t l m f.1 g.1 h k cc in
    (ap₂ ◌∷◌ z r.0, r.1, r.2)

-- THEOREM. Two whole numbers with one text are equal
pub signed_injective : (y z : ℤ) → signed y ≡ signed z → y ≡ z
signed_injective (pos m) (pos n) e = ap pos (decimal_injective m n e)
signed_injective (pos m) (negsuc n) e = let f : Above 47 (minus ∷ decimal (suc n)) = subst (Above 47) e (decimal_above m) in absurd (omega (arith, f.0))
signed_injective (negsuc m) (pos n) e = let f : Above 47 (minus ∷ decimal (suc m)) = subst (Above 47) (sym e) (decimal_above n) in absurd (omega (arith, f.0))
signed_injective (negsuc m) (negsuc n) e =
    let f : decimal (suc m) ≡ decimal (suc n) = cc in
    let g : m ≡ n = omega (arith, decimal_injective (suc m) (suc n) f) in
    ap negsuc g

decimal_some : (n : ℕ) → 0 < length (decimal n)
unfolding spelled
decimal_some n = rw length-append (omega arith)

signed_some : (z : ℤ) → 0 < length (signed z)
signed_some (pos n) = decimal_some n
signed_some (negsuc n) = omega arith

-- what follows a line's first number: a byte, and the rest
mark : List ℤ → ℕ
mark [] = line_feed
mark (z ∷ zs) = space

rest : List ℤ → List ℕ
rest [] = []
rest (z ∷ zs) = line_of (z ∷ zs)

line_first : (z : ℤ) (zs : List ℤ) → line_of (z ∷ zs) ≡ signed z ++ (mark zs ∷ rest zs)
unfolding line_of mark rest
line_first z [] = refl
line_first z (y ∷ zs) = refl

mark_low : (zs : List ℤ) → mark zs ≤ space
unfolding mark
mark_low [] = omega arith
mark_low (z ∷ zs) = omega arith

-- two lines with one text begin alike
alike : (y z : ℤ) (ys zs : List ℤ) → line_of (y ∷ ys) ≡ line_of (z ∷ zs) → (signed y ≡ signed z) × (mark ys ≡ mark zs) × (rest ys ≡ rest zs)
alike y z ys zs e =
    parts space (signed y) (signed z) (mark ys) (mark zs) (rest ys) (rest zs) (signed_above y) (signed_above z) (mark_low ys) (mark_low zs)
    (sym (line_first y ys) ∙ e ∙ line_first z zs)

empty_alone : (z : ℤ) (zs : List ℤ) → line_of [] ≡ line_of (z ∷ zs) → ⊥
unfolding line_of
empty_alone z zs e =
    let p = parts space [] (signed z) line_feed (mark zs) [] (rest zs) tt (signed_above z) (omega arith) (mark_low zs) (e ∙ line_first z zs) in
    omega (arith, signed_some z, ap length p.0)

-- THEOREM. Two lines with one text have the same numbers
pub line_injective : (ys zs : List ℤ) → line_of ys ≡ line_of zs → ys ≡ zs
unfolding mark rest
line_injective [] [] e = refl
line_injective [] (z ∷ zs) e = absurd (empty_alone z zs e)
line_injective (y ∷ ys) [] e = absurd (empty_alone y ys (sym e))
line_injective (y ∷ []) (z ∷ []) e = ap (λ (x : ℤ). x ∷ []) (signed_injective y z (alike y z [] [] e).0)
line_injective (y ∷ []) (z ∷ x ∷ zs) e = absurd (omega (arith, (alike y z [] (x ∷ zs) e).1))
line_injective (y ∷ x ∷ ys) (z ∷ []) e = absurd (omega (arith, (alike y z (x ∷ ys) [] e).1))
line_injective (y ∷ x ∷ ys) (z ∷ w ∷ zs) e =
    let a = alike y z (x ∷ ys) (w ∷ zs) e in
    ap₂ {C = List ℤ} (λ (u : ℤ) (us : List ℤ). u ∷ us) (signed_injective y z a.0) (line_injective (x ∷ ys) (w ∷ zs) a.2)
