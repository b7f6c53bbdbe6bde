-- Keys keep the row order, are injective, and read back; a child's key from its parent's. Assumes nothing.
use Prim.Native.Nat.{ℕ, zero, suc, ◌+◌, ◌*◌, ◌^◌, ◌/◌, ◌%◌, ◌≤◌, ◌<◌}
use mathlib.Core.Path.{◌≡◌, refl, sym, ap, ap₂, ◌∙◌}
use mathlib.Core.Bool.{◌&&◌}
use mathlib.Core.List.{List, [], ◌∷◌, ◌++◌}
use native.Mathlib.Omega.{arith}
use native.Mathlib.Nat.{mul-le-mul_right, pow-suc}
use lib.ListN.{length, take, get_or, length-append}
use lib.Seq.{take-suc, length-take-le}
use lib.Arith.{digits_div, digits_mod}
use lib.Dec.{T, eqb, eqb→eq}
use Rattle.numbers.specs.Limits.{most_symbols, deepest}
use Rattle.numbers.proofs.Tests.{bool_ext, both, left, right}
use Rattle.numbers.proofs.Orders.{eq→eqb}
use Rattle.contexts.specs.Context.{is_context, eqs, precedes}
use Rattle.contexts.specs.Keys.{digits, context_key, desk_span, key_of, desk_of, symbols_of, context_of}
use Rattle.contexts.proofs.Strings.{newest_below, older_context, context_length, eqs→eq, eq→eqs}
use Rattle.contexts.proofs.RowOrder.{Step, smaller, equal, precedes_step, earlier, later, ordered}

-- a context within document 01's limits
abbrev pub Within : List ℕ → Type 0
Within s = T (is_context most_symbols deepest s)

pub pow_pos : (n : ℕ) → 0 < 8 ^ n
pow_pos zero = omega arith
pow_pos (suc n) = let h = pow_pos n in omega arith

pub digits_nil : (n : ℕ) → digits n [] ≡ 0
unfolding digits
digits_nil zero = refl
digits_nil (suc n) = refl

pub digits_lt : (n : ℕ) (s : List ℕ) → T (is_context most_symbols n s) → digits n s < 8 ^ n
unfolding digits
digits_lt zero s c = omega arith
digits_lt (suc n) [] c = let h = pow_pos n in omega arith
digits_lt (suc n) (a ∷ s) c =
    let h = digits_lt n s (older_context most_symbols n a s c) in
    let m : suc a * 8 ^ n ≤ 8 * 8 ^ n = mul-le-mul_right (8 ^ n) (newest_below most_symbols n a s c) in
    omega arith

-- so the desk is read off by a division
pub context_key_lt : (s : List ℕ) → Within s → context_key s < desk_span
context_key_lt s c = let h = digits_lt deepest s c in let l = context_length most_symbols deepest s c in omega arith

pub desk_of_key : (d : ℕ) (s : List ℕ) → Within s → desk_of (key_of d s) ≡ d
desk_of_key d s c = digits_div d (context_key_lt s c)

-- contexts in row order have keys in the order of numbers (`l` is the length of what both begin with)
key_lt : (n l : ℕ) (s t : List ℕ) → l + n ≤ 7 → T (is_context most_symbols n s) → T (is_context most_symbols n t) → T (precedes s t)
    → digits n s * 8 + (l + length s) < digits n t * 8 + (l + length t)
unfolding digits is_context
key_lt n l [] [] h c e p = absurd p
key_lt n l [] (b ∷ t) h c e p = let z = digits_nil n in omega arith
key_lt n l (a ∷ s) [] h c e p = absurd p
key_lt zero l (a ∷ s) (b ∷ t) h c e p = absurd c
key_lt (suc n) l (a ∷ s) (b ∷ t) h c e p = go (precedes_step a b s t p) (key_lt n (suc l) s t (omega arith) cs ct)
  where
    cs : T (is_context most_symbols n s)
    cs = older_context most_symbols n a s c

    ct : T (is_context most_symbols n t)
    ct = older_context most_symbols n b t e

    go : Step a b s t → (T (precedes s t) → digits n s * 8 + (suc l + length s) < digits n t * 8 + (suc l + length t))
        → (a * 8 ^ n + digits n s) * 8 + (l + suc (length s)) < (b * 8 ^ n + digits n t) * 8 + (l + suc (length t))
    go (smaller o) ih =
        let m : suc a * 8 ^ n ≤ b * 8 ^ n = mul-le-mul_right (8 ^ n) o in
        let d = digits_lt n s cs in
        let k = context_length most_symbols n s cs in
        omega arith
    go (equal q r) ih =
        let m : a * 8 ^ n ≡ b * 8 ^ n = ap (λ (z : ℕ). z * 8 ^ n) q in
        let i = ih r in
        omega arith

module _ (s t : List ℕ) (c : Within s) (e : Within t) where
  -- THEOREM. The order of the keys is the row order
  pub key_order : T (precedes s t) → context_key s < context_key t
  key_order p = let h = key_lt deepest 0 s t (omega arith) c e p in omega arith

  pub key_injective : context_key s ≡ context_key t → s ≡ t
  key_injective q = elim (ordered s t) [
    | earlier p ↦ absurd (let h = key_lt deepest 0 s t (omega arith) c e p in omega arith)
    | equal r ↦ r
    | later p ↦ absurd (let h = key_lt deepest 0 t s (omega arith) e c p in omega arith)
  ]

  pub order_key : context_key s < context_key t → T (precedes s t)
  order_key l = elim (ordered s t) [
    | earlier p ↦ p
    | equal q ↦ absurd (let h = ap context_key q in omega arith)
    | later p ↦ absurd (let h = key_lt deepest 0 t s (omega arith) e c p in omega arith)
  ]

  -- keys of the room are equal where desk and context are
  pub eqb_key : (d d' : ℕ) → eqb (key_of d s) (key_of d' t) ≡ (eqb d d' && eqs s t)
  eqb_key d d' = bool_ext _ _ to back
    where
      to : T (eqb (key_of d s) (key_of d' t)) → T (eqb d d' && eqs s t)
      to h =
          let k = eqb→eq (key_of d s) (key_of d' t) h in
          let q : d ≡ d' = sym (desk_of_key d s c) ∙ ap desk_of k ∙ desk_of_key d' t e in
          both (eqb d d') (eqs s t) (eq→eqb d d' q) (eq→eqs s t (key_injective (omega arith)))

      back : T (eqb d d' && eqs s t) → T (eqb (key_of d s) (key_of d' t))
      back h =
          let q = eqb→eq d d' (left (eqb d d') (eqs s t) h) in
          let k = eqs→eq s t (right (eqb d d') (eqs s t) h) in
          eq→eqb (key_of d s) (key_of d' t) (ap₂ key_of q k)

-- the key of a child, from the key of its parent: a is the child's oldest symbol
digits_child : (n j : ℕ) (s : List ℕ) (a : ℕ) → length s + suc j ≡ n → digits n (s ++ a ∷ []) ≡ digits n s + a * 8 ^ j
unfolding digits
digits_child zero j s a h = absurd (omega arith)
digits_child (suc n) j [] a h =
    let e : n ≡ j = omega arith in
    rw (e, digits_nil j) (omega arith)
digits_child (suc n) j (b ∷ s) a h = let ih = digits_child n j s a (omega arith) in omega arith

pub key_child : (j : ℕ) (s : List ℕ) (a : ℕ) → length s + suc j ≡ deepest → context_key (s ++ a ∷ []) ≡ context_key s + a * 8 ^ suc j + 1
key_child j s a h = omega (arith, digits_child deepest j s a h, length-append s (a ∷ []), ap (λ (p : ℕ). a * p) (pow-suc 8 j))

-- .. and along the recent symbols, as a feed's loop walks them
pub key_step : (j l : ℕ) (r : List ℕ) → j < length r → j + suc l ≡ deepest → context_key (take (suc j) r) ≡ context_key (take j r) + get_or r j 0 * 8 ^ suc l + 1
key_step j l r h e =
    let n : length (take j r) ≡ j = length-take-le j r (omega arith) in
    rw (take-suc r j 0 h) (key_child l (take j r) (get_or r j 0) (omega arith))

-- a key read back
symbols_of_digits : (n : ℕ) (s : List ℕ) → T (is_context most_symbols n s) → symbols_of n (length s) (digits n s) ≡ s
unfolding digits symbols_of is_context
symbols_of_digits zero [] c = refl
symbols_of_digits zero (a ∷ s) c = absurd c
symbols_of_digits (suc n) [] c = refl
symbols_of_digits (suc n) (a ∷ s) c =
    let o = older_context most_symbols n a s c in
    rw (digits_div a (digits_lt n s o), digits_mod a (digits_lt n s o), symbols_of_digits n s o)

pub context_of_key : (d : ℕ) (s : List ℕ) → Within s → context_of (key_of d s) ≡ s
context_of_key d s c =
    let l = context_length most_symbols deepest s c in
    let e : key_of d s % 8 ≡ length s = omega arith in
    let f : key_of d s % desk_span / 8 ≡ digits deepest s = rw (digits_mod d (context_key_lt s c)) (digits_div (digits deepest s) (omega arith)) in
    rw (e, f) (symbols_of_digits deepest s c)
