-- A number in the bytes from a place on, and what reading it tells: the one case analysis of `number_at`. Assumes nothing.
use Rattle.std.specs.Prelude.{Ok, Err}
use Prim.Native.Nat.{ℕ, suc, ◌+◌, ◌-◌, ◌<◌, ◌≤◌}
use mathlib.Core.Path.{◌≡◌, refl, sym, ap, ap₂, ◌∙◌}
use mathlib.Core.Logic.{◌⊎◌, inl, inr}
use mathlib.Core.Bool.{Bool, true, false, cond, ◌&&◌, ◌||◌}
use mathlib.Core.List.{List, [], ◌∷◌}
use native.Mathlib.Nat.{add-zero}
use native.Mathlib.Omega.{arith}
use lib.ListN.{length, get_or, drop, length-drop}
use lib.Seq.{get_or-drop}
use lib.Dec.{leb, eqb}
use borrow.Author.Tests.{leb-true, leb-false, le-leb, lt-leb, eqb-true, eqb-false, ne_eqb}
use Rattle.sitting_file.specs.Format.{high_bit, groups_joined, judged_number, second_group, first_group, number_at, Number}
use Rattle.sitting_file.specs.declared.Refusal.{Refusal}
use Rattle.sitting_file.specs.declared.Refusal.TheVariants.{EndsEarly, NotShortest, OutsideLimits}

-- the number v begins the bytes, in one group or in two, of which the second is not 0; the place after it is next
pub data Stands (at : ℕ) : ℕ → ℕ → List ℕ → Type 0 where
  one : {v : ℕ} {rest : List ℕ} → v < high_bit → Stands at v (at + 1) (v ∷ rest)
  two : {b c : ℕ} {rest : List ℕ} → high_bit ≤ b → 0 < c → c < high_bit → Stands at (groups_joined b c) (at + 1 + 1) (b ∷ c ∷ rest)

-- what an answer tells of the bytes
pub data Told (low high at : ℕ) : List ℕ → Number → Type 0 where
  no_group : Told low high at [] (Err EndsEarly)
  half : {b : ℕ} → high_bit ≤ b → Told low high at (b ∷ []) (Err EndsEarly)
  not_short : {b c : ℕ} {rest : List ℕ} → high_bit ≤ b → (high_bit ≤ c) ⊎ (c ≡ 0) → Told low high at (b ∷ c ∷ rest) (Err NotShortest)
  outside : {v next : ℕ} {bytes : List ℕ} → Stands at v next bytes → (v < low) ⊎ (high < v) → Told low high at bytes (Err OutsideLimits)
  inside : {v next : ℕ} {bytes : List ℕ} → Stands at v next bytes → low ≤ v → v ≤ high → Told low high at bytes (Ok (v, next))

module _ (low high at : ℕ) where
  judged_tells : (v next : ℕ) (bytes : List ℕ) → Stands at v next bytes → Told low high at bytes (judged_number low high v next)
  unfolding judged_number
  judged_tells v next bytes s = go (leb low v) (leb v high) refl refl
    where
      go : (p q : Bool) → leb low v ≡ p → leb v high ≡ q → Told low high at bytes (cond (p && q) (Ok (v, next)) (Err OutsideLimits))
      go true true l h = inside s (leb-true low v l) (leb-true v high h)
      go true false l h = outside s (inr (leb-false v high h))
      go false q l h = outside s (inl (leb-false low v l))

  second_tells : (b : ℕ) (bytes : List ℕ) → high_bit ≤ b → Told low high at (b ∷ bytes) (second_group low high b (at + 1) bytes)
  unfolding second_group
  second_tells b [] big = half big
  second_tells b (c ∷ rest) big = go (leb high_bit c) (eqb c 0) refl refl
    where
      go : (p q : Bool) → leb high_bit c ≡ p → eqb c 0 ≡ q → Told low high at (b ∷ c ∷ rest) (cond (p || q) (Err NotShortest) (judged_number low high (groups_joined b c) (at + 1 + 1)))
      go true q h z = not_short big (inl (leb-true high_bit c h))
      go false true h z = not_short big (inr (eqb-true c 0 z))
      go false false h z =
          let nonzero : c ≡ 0 → ⊥ = eqb-false c 0 z in
          judged_tells (groups_joined b c) (at + 1 + 1) (b ∷ c ∷ rest) (two big (omega arith) (leb-false high_bit c h))

  pub tells : (bytes : List ℕ) → Told low high at bytes (first_group low high at bytes)
  unfolding first_group
  tells [] = no_group
  tells (b ∷ rest) = go (leb high_bit b) refl
    where
      go : (p : Bool) → leb high_bit b ≡ p → Told low high at (b ∷ rest) (cond p (second_group low high b (at + 1) rest) (judged_number low high b (at + 1)))
      go true h = second_tells b rest (leb-true high_bit b h)
      go false h = judged_tells b (at + 1) (b ∷ rest) (one (leb-false high_bit b h))

-- ---- a number that was found

-- it takes one or two bytes of the file; one where it is below 128, and it is then that byte
pub record Found (low high at v next : ℕ) (file : List ℕ) : Type 0 where
  pub low_kept : low ≤ v
  pub high_kept : v ≤ high
  pub width_low : at < next
  pub width_high : next ≤ at + 2
  pub ends : next ≤ length file
  pub single : v < high_bit → (next ≡ at + 1) × (v ≡ get_or file at 0)

never : {A : Type 0} {why : Refusal} {v next : ℕ} → ◌≡◌ {A = Number} (Err why) (Ok (v, next)) → A
never e =
    let z : ◌≡◌ {A = ℕ} 0 1 = cc in
    absurd (omega arith)

value_same : {v w i j : ℕ} → ◌≡◌ {A = Number} (Ok (v, i)) (Ok (w, j)) → (v ≡ w) × (i ≡ j)
value_same {v} {w} {i} {j} e =
    let p : ◌≡◌ {A = ℕ × ℕ} (v, i) (w, j) = cc in
    (ap (λ (q : ℕ × ℕ). q.0) p, ap (λ (q : ℕ × ℕ). q.1) p)

module _ (low high at v next : ℕ) (file : List ℕ) where
  told_found : {bytes : List ℕ} {n : Number} → Told low high at bytes n → n ≡ Ok (v, next) → drop at file ≡ bytes → Found low high at v next file
  told_found no_group e d = never e
  told_found (half big) e d = never e
  told_found (not_short big f) e d = never e
  told_found (outside s f) e d = never e
  told_found (inside (one {v = w} {rest} small) l h) e d =
      let t = value_same e in
      let long : length file - at ≡ suc (length rest) = sym (length-drop at file) ∙ ap length d in
      let byte : get_or file (at + 0) 0 ≡ w = sym (get_or-drop at file 0 0) ∙ ap (λ (l : List ℕ). get_or l 0 0) d in
      let first : get_or file at 0 ≡ w = ap (λ (k : ℕ). get_or file k 0) (sym (add-zero at)) ∙ byte in
      record { low_kept = omega arith; high_kept = omega arith; width_low = omega arith; width_high = omega arith; ends = omega arith; single = λ _. (omega arith, omega arith) }
  told_found (inside (two {b} {c} {rest} big low-c high-c) l h) e d =
      let t = value_same e in
      let long : length file - at ≡ suc (suc (length rest)) = sym (length-drop at file) ∙ ap length d in
      record { low_kept = omega arith; high_kept = omega arith; width_low = omega arith; width_high = omega arith; ends = omega arith; single = λ s. absurd (omega arith) }

  pub number_found : number_at file at low high ≡ Ok (v, next) → Found low high at v next file
  number_found e = told_found (tells low high at (drop at file)) e refl

-- ---- a number under other limits

module _ (low high other at : ℕ) where
  stands_judged : {v next : ℕ} {bytes : List ℕ} → Stands at v next bytes → first_group low other at bytes ≡ judged_number low other v next
  unfolding first_group second_group
  stands_judged (one {v} small) = rw (lt-leb high_bit v small)
  stands_judged (two {b} {c} big low-c high-c) =
      let nonzero : c ≡ 0 → ⊥ = omega arith in
      rw (le-leb high_bit b big, lt-leb high_bit c high-c, ne_eqb c 0 nonzero)

  told_judged : {bytes : List ℕ} {n : Number} {v next : ℕ} → Told low high at bytes n → n ≡ Ok (v, next) → first_group low other at bytes ≡ judged_number low other v next
  told_judged no_group e = never e
  told_judged (half big) e = never e
  told_judged (not_short big f) e = never e
  told_judged (outside s f) e = never e
  told_judged (inside s l h) e =
      let t = value_same e in
      stands_judged s ∙ ap₂ (judged_number low other) t.0 t.1

  -- a number that was found is the same number under another limit, and judged by it
  pub judged_again : (v next : ℕ) (bytes : List ℕ) → first_group low high at bytes ≡ Ok (v, next) → first_group low other at bytes ≡ judged_number low other v next
  judged_again v next bytes e = told_judged (tells low high at bytes) e
