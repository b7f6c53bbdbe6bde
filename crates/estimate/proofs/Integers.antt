-- Numbers with a minus sign: the score of anything is its loss with one. Assumes nothing.
use Prim.Native.Nat.{ℕ, zero, suc, ◌+◌, ◌-◌, ◌*◌, ◌≤◌}
use native.Mathlib.Omega.{arith}
use mathlib.Core.Path.{◌≡◌, refl, sym, ap, ◌∙◌}
use lib.Dec.{le→leb, leb→le}
use lib.IntN.{ℤ, pos, neg_ℤ, ◌+ℤ◌, ◌-ℤ◌, ◌*ℤ◌, +ℤ_assoc, +ℤ_invr, +ℤ_idl, neg_ℤ-+ℤ, pos-+ℤ-pos}
use lib.Signed.{◌≤ℤ◌}

abbrev pub minus : ℕ → ℤ
minus n = neg_ℤ (pos n)

pub minus_add : (a b : ℕ) → minus a +ℤ minus b ≡ minus (a + b)
minus_add a b = sym (neg_ℤ-+ℤ (pos a) (pos b)) ∙ ap neg_ℤ (pos-+ℤ-pos a b)

pub minus_times : (b c : ℕ) → pos b *ℤ minus c ≡ minus (b * c)
minus_times b zero = let z : b * 0 ≡ 0 = omega arith in rw z refl
minus_times b (suc c) = refl

pub minus_less : (a b : ℕ) → a ≤ b → pos a -ℤ pos b ≡ minus (b - a)
minus_less a b l =
    let e : b ≡ a + (b - a) = omega arith in
    ap (λ (z : ℤ). pos a +ℤ z) (ap minus e ∙ sym (minus_add a (b - a))) ∙ sym (+ℤ_assoc (pos a) (minus a) (minus (b - a)))
    ∙ ap (λ (z : ℤ). z +ℤ minus (b - a)) (+ℤ_invr (pos a)) ∙ +ℤ_idl (minus (b - a))

pub minus_le : (a b : ℕ) → a ≤ b → minus b ≤ℤ minus a
minus_le zero zero l = record { le = tt }
minus_le zero (suc b) l = record { le = tt }
minus_le (suc a) zero l = absurd (omega arith)
minus_le (suc a) (suc b) l = record { le = le→leb a b (omega arith) }

pub le_minus : (a b : ℕ) → minus b ≤ℤ minus a → a ≤ b
le_minus zero b l = omega arith
le_minus (suc a) zero l = absurd l.le
le_minus (suc a) (suc b) l = let h = leb→le a b l.le in omega arith
