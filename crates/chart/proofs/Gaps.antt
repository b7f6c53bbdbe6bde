-- Equal shares have the gap +0.0. Assumes nothing.
use mathlib.Core.Path.{◌≡◌, sym, ◌∙◌}
use mathlib.Core.Bool.{Bool, true, false}
use Prim.Native.Nat.{ℕ, ◌*◌, ◌-◌, ◌<◌}
use native.Mathlib.Nat.{le_refl, mul-pos}
use native.Mathlib.Omega.{arith}
use lib.Dec.{T, lit<}
use lib.IntN.{ℤ}
use lib.Ieee.{Float, nan, inf, fin, binary64, up, down, round, sum, add, neg, sub, le}
use lib.Ieee.Fits.{down_pos}
use lib.Ieee.Scale.{round_same}
use borrow.Author.Tests.{le-ltb}
use Rattle.chart.specs.Share.{share, zero64, one64, Charted}
use Rattle.chart.specs.Answer.{point_of}
use Rattle.chart.proofs.Shares.{zero_is, share_is, share_proper}

-- nothing is left
none_left : (a d : ℕ) → 0 < d → round binary64 false (a - a) d ≡ zero64
none_left a d p = round_same binary64 false (a - a) d 0 1 p (lit< tt) (let e : a - a ≡ 0 = omega arith in rw e (omega arith)) ∙ zero_is

-- a number less itself
less_itself : (s : Bool) (m : ℕ) (e : ℤ) → sub binary64 (fin s m e) (fin s m e) ≡ zero64
unfolding sub add neg sum
less_itself true m e =
    let a = m * up e * down e in
    rw (le-ltb a a (le_refl a)) (none_left a (down e * down e) (mul-pos (down_pos e) (down_pos e)))
less_itself false m e =
    let a = m * up e * down e in
    rw (le-ltb a a (le_refl a)) (none_left a (down e * down e) (mul-pos (down_pos e) (down_pos e)))

-- a value from 0 to 1 is a number, and less itself it is +0.0
gap_itself : (x : Float) → T (le zero64 x) → T (le x one64) → sub binary64 x x ≡ zero64
unfolding le
gap_itself nan l h = absurd l
gap_itself (inf true) l h = absurd l
gap_itself (inf false) l h = absurd h
gap_itself (fin s m e) l h = less_itself s m e

-- THEOREM. Equal counts and totals have the gap +0.0
pub gap_same : {c t : ℕ} → Charted c t → (point_of (share c t) (share c t)).gap ≡ zero64
gap_same {c} {t} h = let p = share_proper h in gap_itself (share c t) p.low p.high

-- equal fractions have equal shares ..
pub same_share : {c₁ t₁ c₂ t₂ : ℕ} → Charted c₁ t₁ → Charted c₂ t₂ → c₁ * t₂ ≡ c₂ * t₁ → share c₁ t₁ ≡ share c₂ t₂
same_share {c₁} {t₁} {c₂} {t₂} h k e = share_is h ∙ round_same binary64 false c₁ t₁ c₂ t₂ h.seen k.seen e ∙ sym (share_is k)

-- THEOREM. .. and so the gap +0.0
pub gap_none : {c₁ t₁ c₂ t₂ : ℕ} → Charted c₁ t₁ → Charted c₂ t₂ → c₁ * t₂ ≡ c₂ * t₁ → (point_of (share c₁ t₁) (share c₂ t₂)).gap ≡ zero64
gap_none h k e = rw (← same_share h k e) (gap_same h)
