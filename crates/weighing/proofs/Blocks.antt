-- The keys of the contexts that begin with s: from the key of s up to the end of its block, of which each child has a part. Assumes nothing.
use Prim.Native.Nat.{ℕ, zero, suc, ◌+◌, ◌-◌, ◌*◌, ◌^◌, ◌≤◌, ◌<◌}
use mathlib.Core.Path.{◌≡◌, ap}
use mathlib.Core.List.{List, [], ◌∷◌}
use native.Mathlib.Omega.{arith}
use native.Mathlib.Nat.{mul-le-mul_right, pow-suc}
use lib.ListN.{length}
use lib.Dec.{T, eqb, eqb→eq}
use Rattle.numbers.specs.Limits.{most_symbols, deepest}
use Rattle.numbers.proofs.Tests.{both, left, right}
use Rattle.numbers.proofs.Orders.{less, same, more, order, eq→eqb}
use Rattle.contexts.specs.Context.{is_context, begins}
use Rattle.contexts.specs.Keys.{digits, desk_span, key_of}
use Rattle.contexts.proofs.Strings.{newest_below, older_context, context_length}
use Rattle.contexts.proofs.KeyOrder.{Within, digits_nil, digits_lt}
use Rattle.weighing.specs.Visit.{end_of}

-- ---- digits

-- n digits, of which s has the first: the others fill the room to the next
pub digits_room : (n j : ℕ) (s : List ℕ) → length s + j ≡ n → T (is_context most_symbols n s) → digits n s + 8 ^ j ≤ 8 ^ n
unfolding digits
digits_room n j [] h c = let q : j ≡ n = omega arith in omega (arith, digits_nil n, ap (λ (z : ℕ). 8 ^ z) q)
digits_room zero j (x ∷ s) h c = absurd (omega arith)
digits_room (suc n) j (x ∷ s) h c =
    let ih = digits_room n j s (omega arith) (older_context most_symbols n x s c) in
    let m : suc x * 8 ^ n ≤ 8 * 8 ^ n = mul-le-mul_right (8 ^ n) (newest_below most_symbols n x s c) in
    omega arith

-- a context that begins with s has s's digits, and is no shorter
inside : (n j : ℕ) (s t : List ℕ) → length s + j ≡ n → T (is_context most_symbols n t) → T (begins s t)
    → (digits n s ≤ digits n t) × (digits n t < digits n s + 8 ^ j) × (length s ≤ length t)
unfolding digits is_context
inside n j [] t h c g = let q : j ≡ n = omega arith in omega (arith, digits_nil n, digits_lt n t c, ap (λ (z : ℕ). 8 ^ z) q)
inside n j (x ∷ s) [] h c g = absurd g
inside zero j (x ∷ s) (y ∷ t) h c g = absurd (omega arith)
inside (suc n) j (x ∷ s) (y ∷ t) h c g =
    let ih = inside n j s t (omega arith) (older_context most_symbols n y t c) (right (eqb x y) (begins s t) g) in
    let m : x * 8 ^ n ≡ y * 8 ^ n = ap (λ (z : ℕ). z * 8 ^ n) (eqb→eq x y (left (eqb x y) (begins s t) g)) in
    omega (arith, ih)

-- .. and the other way round (`l` is the length of what both begin with)
outside : (n j l : ℕ) (s t : List ℕ) → l + n ≤ 7 → length s + j ≡ n → T (is_context most_symbols n s) → T (is_context most_symbols n t)
    → digits n s * 8 + (l + length s) ≤ digits n t * 8 + (l + length t) → digits n t < digits n s + 8 ^ j → T (begins s t)
unfolding digits is_context
outside n j l [] t h hs bs bt lo hi = tt
outside zero j l (x ∷ s) t h hs bs bt lo hi = absurd (omega arith)
outside (suc n) j l (x ∷ s) [] h hs bs bt lo hi = absurd (omega arith)
outside (suc n) j l (x ∷ s) (y ∷ t) h hs bs bt lo hi =
    let cs = older_context most_symbols n x s bs in
    let ct = older_context most_symbols n y t bt in
    elim (order x y) [
      | less o ↦ absurd (let m : suc x * 8 ^ n ≤ y * 8 ^ n = mul-le-mul_right (8 ^ n) o in let d = digits_room n j s (omega arith) cs in omega arith)
      | same q ↦
          let m : x * 8 ^ n ≡ y * 8 ^ n = ap (λ (z : ℕ). z * 8 ^ n) q in
          both (eqb x y) (begins s t) (eq→eqb x y q) (outside n j (suc l) s t (omega arith) (omega arith) cs ct (omega arith) (omega arith))
      | more o ↦ absurd (let m : suc y * 8 ^ n ≤ x * 8 ^ n = mul-le-mul_right (8 ^ n) o in let d = digits_lt n t ct in let k = context_length most_symbols n t ct in omega arith)
    ]

-- ---- the block of a context

-- the end of a block, where j symbols could follow
pub end_is : (d j : ℕ) (s : List ℕ) → length s + j ≡ deepest → end_of d s ≡ d * desk_span + (digits deepest s * 8 + 8 * 8 ^ j)
end_is d j s h = let e : 7 - length s ≡ suc j = omega arith in rw e (omega (arith, pow-suc 8 j))

module _ (d : ℕ) (s t : List ℕ) (cs : Within s) (ct : Within t) where
  rest : length s + (deepest - length s) ≡ deepest
  rest = let l = context_length most_symbols deepest s cs in omega arith

  -- THEOREM. s begins t exactly where t's key is in the block of s, from the key of s on
  pub block_key : T (begins s t) → (key_of d s ≤ key_of d t) × (key_of d t < end_of d s)
  block_key g =
      let i = inside deepest (deepest - length s) s t rest ct g in
      let l = context_length most_symbols deepest t ct in
      omega (arith, i, end_is d (deepest - length s) s rest)

  pub key_block : key_of d s ≤ key_of d t → key_of d t < end_of d s → T (begins s t)
  key_block lo hi = outside deepest (deepest - length s) 0 s t (omega arith) rest cs ct (omega arith) (omega (arith, end_is d (deepest - length s) s rest))
