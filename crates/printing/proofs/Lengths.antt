-- How long texts are at most: a number of 32 bits has ten digits, one of 64 bits with its sign twenty bytes. Assumes nothing.
use Prim.Native.Nat.{ℕ, zero, suc, ◌+◌, ◌*◌, ◌^◌, ◌<◌, ◌≤◌}
use native.Mathlib.Omega.{arith}
use native.Mathlib.Nat.{suc-mul, lt_of_lt_of_le, lt_of_le_of_lt}
use mathlib.Core.List.{List, [], ◌∷◌, ◌++◌, map}
use lib.Dec.{lit≤, lit<}
use lib.IntN.{ℤ, pos, negsuc}
use lib.ListN.{length, get_or, take, drop, length-append, length-map, length-take}
use lib.Seq.{get_or-drop}
use mir.Syntax.{w64}
use mir.Val.{SFits}
use Rattle.numbers.specs.Limits.{row_width}
use Rattle.printing.specs.Text.{ascii, space, decimal, signed, line_of, head_text, row_text, row_at, rows_text, report_text, refusal_text}
use Rattle.printing.specs.Putting.{text_bytes, Printable}
use Rattle.std.proofs.lemmas.Fmt.{length-decimal-le}
use Rattle.printing.proofs.Decimals.{std_digits}

-- ---- a number

digits_long : (k n : ℕ) → 0 < k → n < 10 ^ k → n < 2 ^ 64 → length (decimal n) ≤ k
digits_long k n p h w = rw (← std_digits n w) (length-decimal-le k n p h w)

-- 32 bits
number_long : (n : ℕ) → n < 2 ^ 32 → length (decimal n) ≤ 10
number_long n h = digits_long 10 n (lit< tt) (lt_of_lt_of_le h (lit≤ tt)) (lt_of_lt_of_le h (lit≤ tt))

-- 64 bits with a sign
signed_long : (z : ℤ) → SFits w64 z → length (signed z) ≤ 20
signed_long (pos n) f = omega (arith, digits_long 19 n (lit< tt) (lt_of_lt_of_le f.sfits (lit≤ tt)) (lt_of_lt_of_le f.sfits (lit≤ tt)))
signed_long (negsuc n) f =
    omega (arith, digits_long 19 (suc n) (lit< tt) (lt_of_le_of_lt f.sfits (lit< tt)) (lt_of_le_of_lt f.sfits (lit< tt)))

-- ---- a line of numbers, each of at most w bytes

abbrev Short : ℕ → List ℤ → Type 0
Short w [] = Unit {0}
Short w (z ∷ zs) = (length (signed z) ≤ w) × Short w zs

line_long : (w : ℕ) (zs : List ℤ) → Short w zs → length (line_of zs) ≤ length zs * suc w + 1
unfolding line_of
line_long w [] s = omega arith
line_long w (z ∷ []) s = simp length-append (omega (arith, s.0))
line_long w (z ∷ y ∷ zs) s =
    rw (length-append (signed z) (space ∷ line_of (y ∷ zs))) (omega (arith, s.0, line_long w (y ∷ zs) s.1, suc-mul (length (y ∷ zs)) (suc w)))

-- ---- a list of numbers of 32 bits

abbrev pub Small : List ℕ → Type 0
Small l = (i : ℕ) → get_or l i 0 < 2 ^ 32

small_take : (n : ℕ) (l : List ℕ) → Small l → Small (take n l)
small_take zero l h i = lit< tt
small_take (suc n) [] h i = lit< tt
small_take (suc n) (x ∷ l) h zero = h 0
small_take (suc n) (x ∷ l) h (suc i) = small_take n l (λ j. h (suc j)) i

small_drop : (n : ℕ) (l : List ℕ) → Small l → Small (drop n l)
small_drop n l h i = rw get_or-drop (h (n + i))

short : (l : List ℕ) → Small l → Short 10 (map pos l)
short [] h = tt
short (x ∷ l) h = (number_long x (h 0), short l (λ i. h (suc i)))

-- ---- refusals, lines, rows and reports

pub refusal_fits : (n : ℕ) → n < 2 ^ 32 → length (refusal_text n) ≤ text_bytes
unfolding ascii
refusal_fits n h = omega (arith, line_long 10 (pos n ∷ []) (number_long n h, tt))

-- a last number of 64 bits with a sign after them
wider : (l : List ℕ) (z : ℤ) → Small l → SFits w64 z → Short 20 (map pos l ++ (z ∷ []))
wider [] z h f = (signed_long z f, tt)
wider (x ∷ l) z h f = (omega (arith, number_long x (h 0)), wider l z (λ i. h (suc i)) f)

-- few numbers
pub line_fits : (l : List ℕ) (z : ℤ) → length l ≤ row_width → Small l → SFits w64 z → length (line_of (map pos l ++ (z ∷ []))) ≤ text_bytes
line_fits l z h s f = omega (arith, line_long 20 (map pos l ++ (z ∷ [])) (wider l z s f), length-append (map pos l) (z ∷ []), length-map l pos)

module _ (A rows : ℕ) (sheet : List ℕ) (known : Printable A rows sheet) (small : Small sheet) where
  -- at most eleven numbers of ten digits, each with the byte after it, and one byte over (the bound also covers an empty line)
  row_longest : (k : ℕ) → length (row_text A (row_at sheet k)) ≤ 122
  row_longest k =
      let row = take (3 + A) (row_at sheet k) in
      let printed : Small row = small_take (3 + A) (row_at sheet k) (small_take row_width (drop (row_width * k) sheet) (small_drop (row_width * k) sheet small)) in
      let numbers : length (map pos row) ≤ 3 + A = rw (length-map row pos, length-take) (omega arith) in
      omega (arith, known.alphabet, line_long 10 (map pos row) (short row printed))

  rows_longest : (k : ℕ) → length (rows_text A k sheet) ≤ 122 * k
  unfolding rows_text
  rows_longest zero = omega arith
  rows_longest (suc k) = omega (arith, rows_longest k, row_longest k, length-append (rows_text A k sheet) (row_text A (row_at sheet k)))

  module _ (D n m : ℕ) (score : ℤ) (d : D < 2 ^ 32) (p : n < 2 ^ 32) (q : m < 2 ^ 32) (f : SFits w64 score) where
    -- six numbers of twenty bytes, each with the byte after it, and one byte over
    head_longest : length (head_text A D n m rows score) ≤ 127
    head_longest =
        let a : A < 2 ^ 32 = omega (arith, known.alphabet) in
        let r : rows < 2 ^ 32 = omega (arith, known.few) in
        line_long 20 (pos A ∷ pos D ∷ pos n ∷ pos m ∷ pos rows ∷ score ∷ []) (wide A a, (wide D d, (wide n p, (wide m q, (wide rows r, (signed_long score f, tt))))))
      where
        wide : (k : ℕ) → k < 2 ^ 32 → length (decimal k) ≤ 20
        wide k h = omega (arith, number_long k h)

    -- THEOREM. Every report within document 01's limits fits
    pub report_fits : length (report_text A D n m rows score sheet) ≤ text_bytes
    report_fits = omega (arith, known.few, head_longest, rows_longest rows, length-append (head_text A D n m rows score) (rows_text A rows sheet))
