-- The shortest form of a number: it is read back as that number, and it is what stands where a number was found. Assumes nothing.
use Rattle.std.specs.Prelude.{Ok, Err}
use Prim.Native.Nat.{ℕ, suc, ◌+◌, ◌/◌, ◌%◌, ◌<◌, ◌≤◌}
use mathlib.Core.Path.{◌≡◌, refl, ap, ◌∙◌}
use mathlib.Core.Logic.{◌⊎◌, inl, inr}
use mathlib.Core.Bool.{Bool, true, false, cond, ◌||◌}
use mathlib.Core.List.{List, [], ◌∷◌, ◌++◌}
use native.Mathlib.Omega.{arith}
use lib.ListN.{length}
use lib.Dec.{ltb, leb, eqb}
use borrow.Author.Tests.{ltb-true, ltb-false, leb-true, leb-false, lt-ltb, le-ltb, le-leb, lt-leb, eq-eqb, ne_eqb}
use Rattle.sitting_file.specs.Format.{high_bit, groups_joined, judged_number, second_group, first_group, Number}
use Rattle.sitting_file.specs.Verdict.{Bytes, two_groups, shortest, from_to, FaultAt}
use Rattle.sitting_file.specs.declared.Refusal.{Refusal}
use Rattle.sitting_file.specs.declared.Refusal.TheVariants.{EndsEarly, NotShortest, OutsideLimits, BytesLeft}
use Rattle.sitting_file.proofs.Places.{below_low, above_high}
use Rattle.sitting_file.proofs.Groups.{Stands, one, two, Told, no_group, half, not_short, outside, inside, tells}

pub one_byte : (v : ℕ) → v < high_bit → shortest v ≡ v ∷ []
unfolding shortest
one_byte v h = simp (lt-ltb v high_bit h)

pub two_bytes : (v : ℕ) → high_bit ≤ v → shortest v ≡ (high_bit + v % high_bit) ∷ v / high_bit ∷ []
unfolding shortest
two_bytes v h = simp (le-ltb v high_bit h)

-- a shortest form is read back as its number, which is then judged
pub read_back : (low high at v : ℕ) (rest : List ℕ) → v < two_groups → first_group low high at (shortest v ++ rest) ≡ judged_number low high v (at + length (shortest v))
unfolding first_group second_group
read_back low high at v rest h = go (ltb v high_bit) refl
  where
    go : (t : Bool) → ltb v high_bit ≡ t → first_group low high at (shortest v ++ rest) ≡ judged_number low high v (at + length (shortest v))
    go true e =
        let small : v < high_bit = ltb-true v high_bit e in
        rw (one_byte v small, lt-leb high_bit v small)
    go false e =
        let big : high_bit ≤ v = ltb-false v high_bit e in
        let nonzero : v / high_bit ≡ 0 → ⊥ = omega arith in
        let value : groups_joined (high_bit + v % high_bit) (v / high_bit) ≡ v = omega arith in
        let end : at + 1 + 1 ≡ at + 2 = omega arith in
        rw (two_bytes v big, le-leb high_bit (high_bit + v % high_bit) (omega arith), lt-leb high_bit (v / high_bit) (omega arith), ne_eqb (v / high_bit) 0 nonzero, value, end)

-- ---- bytes where a number was found

-- v in its shortest form, and the bytes after it
pub record Form (at v next : ℕ) (bytes : List ℕ) : Type 0 where
  pub rest : List ℕ
  pub split : bytes ≡ shortest v ++ rest
  pub place : next ≡ at + length (shortest v)
  pub small : v < two_groups
  pub left : Bytes rest

pub form : {at v next : ℕ} {bytes : List ℕ} → Stands at v next bytes → Bytes bytes → Form at v next bytes
form {at} (one {v} {rest} small) bytes = record { rest = rest; split = rw (one_byte v small); place = rw (one_byte v small); small = omega arith; left = λ i. bytes (suc i) }
form {at} (two {b} {c} {rest} big low high) bytes =
    let v = groups_joined b c in
    let less : b < 256 = bytes 0 in
    let large : high_bit ≤ groups_joined b c = omega arith in
    let lowest : high_bit + v % high_bit ≡ b = omega arith in
    let highest : v / high_bit ≡ c = omega arith in
    let end : at + 1 + 1 ≡ at + 2 = omega arith in
    record { rest = rest; split = rw (two_bytes v large, lowest, highest); place = rw (two_bytes v large, end); small = omega arith; left = λ i. bytes (suc (suc i)) }

-- what an answer says of the bytes
abbrev pub Says : ℕ → ℕ → ℕ → List ℕ → Number → Type 0
Says low high at bytes (Ok (v, next)) = Form at v next bytes × (low ≤ v) × (v ≤ high)
Says low high at bytes (Err why) = FaultAt why (from_to low high) bytes

told_says : {low high at : ℕ} {bytes : List ℕ} {n : Number} → Told low high at bytes n → Bytes bytes → Says low high at bytes n
told_says no_group bytes = inl refl
told_says (half {b} big) bytes = inr (b, big, refl)
told_says (not_short {b} {c} {rest} big f) bytes = (b, c, rest, big, f, refl)
told_says (outside {v} s f) bytes = let q = form s bytes in (v, q.rest, q.small, f, q.split)
told_says (inside s l h) bytes = (form s bytes, l, h)

pub number_says : (low high at : ℕ) (bytes : List ℕ) → Bytes bytes → Says low high at bytes (first_group low high at bytes)
number_says low high at bytes b = told_says (tells low high at bytes) b

-- ---- each fault is found

pub fault_found : (why : Refusal) (low high at : ℕ) (bytes : List ℕ) → FaultAt why (from_to low high) bytes → first_group low high at bytes ≡ Err why
unfolding first_group second_group
fault_found EndsEarly low high at bytes (inl e) = rw e
fault_found EndsEarly low high at bytes (inr f) = rw (f.2, le-leb high_bit f.0 f.1)
fault_found NotShortest low high at bytes f = rw (f.5, le-leb high_bit f.0 f.3) (go f.4)
  where
    or_true : (t : Bool) → (t || true) ≡ true
    or_true true = refl
    or_true false = refl

    go : (high_bit ≤ f.1) ⊎ (f.1 ≡ 0) → cond (leb high_bit f.1 || eqb f.1 0) (Err NotShortest) (judged_number low high (groups_joined f.0 f.1) (at + 1 + 1)) ≡ Err NotShortest
    go (inl h) = rw (le-leb high_bit f.1 h)
    go (inr z) = rw (eq-eqb f.1 0 z, or_true (leb high_bit f.1))
fault_found OutsideLimits low high at bytes f = ap (first_group low high at) f.4 ∙ read_back low high at f.0 f.1 f.2 ∙ go f.3
  where
    far : (t : Bool) → leb low f.0 ≡ t → high < f.0 → judged_number low high f.0 (at + length (shortest f.0)) ≡ Err OutsideLimits
    far true e h = above_high low high f.0 _ (leb-true low f.0 e) h
    far false e h = below_low low high f.0 _ (leb-false low f.0 e)

    go : (f.0 < low) ⊎ (high < f.0) → judged_number low high f.0 (at + length (shortest f.0)) ≡ Err OutsideLimits
    go (inl h) = below_low low high f.0 _ h
    go (inr h) = far (leb low f.0) refl h
fault_found BytesLeft low high at bytes f = absurd f
