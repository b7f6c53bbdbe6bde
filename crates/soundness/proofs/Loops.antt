-- A turn of each loop of the soundness test, as the code asks for it. Assumes nothing.
use mathlib.Core.Path.{◌≡◌, sym, ap, ◌∙◌}
use mathlib.Core.Bool.{Bool, ◌&&◌, ◌||◌, and-true}
use mathlib.Core.List.{List}
use Prim.Native.Nat.{ℕ, zero, suc, ◌+◌, ◌-◌, ◌*◌, ◌/◌, ◌≤◌, ◌<◌}
use native.Mathlib.Nat.{div-mul-le_self, div-le_self, mul-le-mul_right, le_trans}
use native.Mathlib.Omega.{arith}
use borrow.Author.Tests.{ne_eqb, lt-ltb, le-ltb}
use lib.Dec.{eqb, ltb}
use lib.ListN.{length, take, drop, get_or}
use Rattle.numbers.specs.Limits.{most_symbols}
use Rattle.numbers.specs.Sum.{sum}
use Rattle.numbers.specs.Every.{every}
use Rattle.numbers.proofs.Sums.{sum_next, sum_none}
use Rattle.numbers.proofs.Lists.{get_d_part}
use Rattle.numbers.proofs.Every.{every_next, every_none}

-- ---- the eight counts from a place of a record

abbrev pub eight_from : ℕ → List ℕ → List ℕ
eight_from from r = take most_symbols (drop from r)

pub eight_at : (from : ℕ) (r : List ℕ) (i : ℕ) → i < most_symbols → get_or (eight_from from r) i 0 ≡ get_or r (from + i) 0
eight_at from r i g = get_d_part most_symbols from r i 0 g

-- .. and as the code goes over them
pub eight_gone : (from : ℕ) (r : List ℕ) (i : ℕ) → i < most_symbols → get_or (take (from + most_symbols - from) (drop from r)) i 0 ≡ get_or r (from + i) 0
eight_gone from r i g =
    let many : from + most_symbols - from ≡ most_symbols = omega arith in
    rw many (eight_at from r i g)

-- the sum so far
pub record Summing (r : List ℕ) (from seen i : ℕ) : Type 0 where
  pub place : i ≤ most_symbols
  pub long : from + most_symbols ≤ length r
  pub small : seen ≤ 4294967295 * i
  pub is : seen ≡ sum i (λ a. get_or (eight_from from r) a 0)

pub summing_start : (r : List ℕ) (from : ℕ) → from + most_symbols ≤ length r → Summing r from 0 0
summing_start r from h = record { place = omega arith; long = h; small = omega arith; is = sym (sum_none (λ a. get_or (eight_from from r) a 0)) }

pub summing_more : (r : List ℕ) (from seen i : ℕ) → Summing r from seen i → i < most_symbols → get_or r (from + i) 0 ≤ 4294967295 → Summing r from (seen + get_or r (from + i) 0) (i + 1)
summing_more r from seen i g h b = record {
  place = omega arith;
  long = g.long;
  small = omega (arith, g.small);
  is = omega (arith, g.is, sum_next i (λ a. get_or (eight_from from r) a 0), eight_at from r i h);
}

-- the sum of those from symbol a up, so far: 0 exactly where they are all 0
abbrev pub quiet_at : ℕ → List ℕ → ℕ → Bool
quiet_at a part x = ltb x a || eqb (get_or part x 0) 0

pub record Quiet (r : List ℕ) (from a seen i : ℕ) : Type 0 where
  pub place : i ≤ most_symbols
  pub long : from + most_symbols ≤ length r
  pub small : seen ≤ 4294967295 * i
  pub is : eqb seen 0 ≡ every i (quiet_at a (eight_from from r))

pub quiet_start : (r : List ℕ) (from a : ℕ) → from + most_symbols ≤ length r → Quiet r from a 0 0
quiet_start r from a h = record { place = omega arith; long = h; small = omega arith; is = sym (every_none (quiet_at a (eight_from from r))) }

zero_both : (x y : ℕ) → eqb (x + y) 0 ≡ eqb x 0 && eqb y 0
zero_both zero y = ap (λ (m : ℕ). eqb m 0) (let e : 0 + y ≡ y = omega arith in e)
zero_both (suc x) y = rw (ne_eqb (suc x) 0 (λ e. omega arith)) (ne_eqb (suc x + y) 0 (λ e. omega arith))

module _ (r : List ℕ) (from a seen i : ℕ) (g : Quiet r from a seen i) (h : i < most_symbols) where
  pub quiet_add : a ≤ i → get_or r (from + i) 0 ≤ 4294967295 → Quiet r from a (seen + get_or r (from + i) 0) (i + 1)
  quiet_add u b = record {
    place = omega arith;
    long = g.long;
    small = omega (arith, g.small);
    is =
        zero_both seen (get_or r (from + i) 0)
        ∙ rw g.is
        (sym (every_next i (quiet_at a (eight_from from r)) ∙ rw (le-ltb i a u, eight_at from r i h)));
  }

  pub quiet_skip : i < a → Quiet r from a seen (i + 1)
  quiet_skip u = record {
    place = omega arith;
    long = g.long;
    small = omega (arith, g.small);
    is = g.is ∙ sym (every_next i (quiet_at a (eight_from from r)) ∙ rw (lt-ltb i a u) (and-true (every i (quiet_at a (eight_from from r)))));
  }

-- a number rounded down to a multiple of 8 · w
pub round_le : (k w : ℕ) → k / w / 8 * 8 * w ≤ k
round_le k w = le_trans (mul-le-mul_right w (div-mul-le_self (k / w) 8)) (div-mul-le_self k w)

pub round_le' : (k w : ℕ) → k / w / 8 * 8 ≤ k
round_le' k w = le_trans (div-mul-le_self (k / w) 8) (div-le_self k w)
