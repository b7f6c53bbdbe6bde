-- The parts of a context's block: its own record, then the blocks of its children. Assumes nothing.
use Prim.Native.Nat.{ℕ, zero, suc, ◌+◌, ◌*◌, ◌^◌, ◌≤◌, ◌<◌}
use mathlib.Core.Path.{◌≡◌, refl, sym, ap, subst, ◌∙◌}
use mathlib.Core.List.{List, [], ◌∷◌, ◌++◌, append_assoc, append-nil}
use native.Mathlib.Omega.{arith}
use native.Mathlib.Nat.{mul-le-mul_right, pow-suc}
use lib.ListN.{length, length-append}
use lib.Dec.{T, eqb, eqb→eq, eqb_refl}
use Rattle.numbers.specs.Limits.{most_symbols, deepest}
use Rattle.numbers.proofs.Tests.{both, left, right}
use Rattle.numbers.proofs.Orders.{less, same, more, order}
use Rattle.contexts.specs.Context.{is_context, begins}
use Rattle.contexts.specs.Keys.{key_of}
use Rattle.contexts.proofs.Strings.{newest_below, older_context, context_cons}
use Rattle.contexts.proofs.KeyOrder.{Within, pow_pos, key_child}
use Rattle.rows.specs.Walk.{older}
use Rattle.weighing.specs.Visit.{end_of}
use Rattle.weighing.proofs.Blocks.{block_key, end_is, key_block}

-- what begins with s and goes on goes on by one of the symbols
pub begins_split : (s t : List ℕ) → T (begins s t) → (u : List ℕ) × (t ≡ s ++ u)
begins_split [] t g = (t, refl)
begins_split (a ∷ s) [] g = absurd g
begins_split (a ∷ s) (b ∷ t) g =
    let r = begins_split s t (right (eqb a b) (begins s t) g) in
    let e = eqb→eq a b (left (eqb a b) (begins s t) g) in
    (r.0, cc r.1)

pub begins_append : (s u : List ℕ) → T (begins s (s ++ u))
begins_append [] u = tt
begins_append (a ∷ s) u = both (eqb a a) (begins s (s ++ u)) (eqb_refl a) (begins_append s u)

pub begins_self : (s : List ℕ) → T (begins s s)
begins_self s = subst (λ (t : List ℕ). T (begins s t)) (append-nil s) (begins_append s [])

begins_child : (s : List ℕ) (a : ℕ) (u : List ℕ) → T (begins (older s a) (s ++ a ∷ u))
begins_child s a u = subst (λ (t : List ℕ). T (begins (older s a) t)) (append_assoc s (a ∷ []) u) (begins_append (older s a) u)

-- a context that goes on from s by a has both within its alphabet and depth
pub context_split : (A D : ℕ) (s : List ℕ) (a : ℕ) (u : List ℕ) → T (is_context A D (s ++ a ∷ u)) → T (is_context A D s) × (a < A) × (length s < D)
unfolding is_context
context_split A zero [] a u c = absurd c
context_split A (suc D) [] a u c = (tt, newest_below A D a u c, omega arith)
context_split A zero (b ∷ s) a u c = absurd c
context_split A (suc D) (b ∷ s) a u c =
    let r = context_split A D s a u (older_context A D b (s ++ a ∷ u) c) in
    (context_cons A D b s (newest_below A D b (s ++ a ∷ u) c) r.0, r.1, omega (arith, r.2))

-- .. and a context within them goes on by each symbol below A
pub context_older : (A D : ℕ) (s : List ℕ) (a : ℕ) → T (is_context A D s) → a < A → length s < D → T (is_context A D (older s a))
unfolding is_context
context_older A zero s a c l h = absurd (omega arith)
context_older A (suc D) [] a c l h = context_cons A D a [] l tt
context_older A (suc D) (b ∷ s) a c l h = context_cons A D b (older s a) (newest_below A D b s c) (context_older A D s a (older_context A D b s c) l (omega arith))

-- a child's key, and the end of its part: those of its parent moved on
module _ (d j : ℕ) (s : List ℕ) (h : length s + suc j ≡ deepest) (a : ℕ) where
  pub key_older : key_of d (older s a) ≡ key_of d s + a * 8 ^ suc j + 1
  key_older = let e = key_child j s a h in omega arith

  pub end_older : end_of d (older s a) + length s ≡ key_of d s + suc a * 8 ^ suc j
  end_older =
      let e = key_child j s a h in
      let l = length-append s (a ∷ []) in
      omega (arith, end_is d j (older s a) (omega arith), pow-suc 8 j)

-- THEOREM. A key of the block of s from the end of the child at b on is that of a context that goes on from s by a symbol above b
module _ (A d j b : ℕ) (s t : List ℕ) (h : length s + suc j ≡ deepest) (cs : Within s) (ct : Within t) (tA : T (is_context A deepest t)) where
  pub later_child : end_of d (older s b) ≤ key_of d t → key_of d t < end_of d s → (c : ℕ) × (b < c) × (c < A) × (key_of d (older s c) ≤ key_of d t)
  later_child lo hi =
      let big = pow_pos j in
      let e = end_older d j s h b in
      let q = begins_split s t (key_block d s t cs ct (omega (arith, pow-suc 8 j, e)) hi) in
      go q.0 q.1
    where
      go : (u : List ℕ) → t ≡ s ++ u → (c : ℕ) × (b < c) × (c < A) × (key_of d (older s c) ≤ key_of d t)
      go [] f = absurd (let g : t ≡ s = f ∙ append-nil s in let k = ap (key_of d) g in let big = pow_pos j in omega (arith, end_older d j s h b, pow-suc 8 j))
      go (c ∷ u) f =
          let x = context_split A deepest s c u (subst (λ (z : List ℕ). T (is_context A deepest z)) f tA) in
          let y = context_split most_symbols deepest s c u (subst Within f ct) in
          let g = block_key d (older s c) t (context_older most_symbols deepest s c cs y.1 (omega arith)) ct (subst (λ (z : List ℕ). T (begins (older s c) z)) (sym f) (begins_child s c u)) in
          (c, above c (omega (arith, g.1, end_older d j s h b, end_older d j s h c)), x.1, g.0)
        where
          above : (c : ℕ) → suc b * 8 ^ suc j < suc c * 8 ^ suc j → b < c
          above c l = elim (order b c) [
            | less o ↦ o
            | same q ↦ absurd (omega (arith, ap (λ (z : ℕ). suc z * 8 ^ suc j) q))
            | more o ↦ absurd (omega (arith, mul-le-mul_right {m = suc c} {n = suc b} (8 ^ suc j) (omega arith)))
          ]
