-- A key's digits: its context's symbols and length, and that a key with nothing past its length is that of its context. Assumes nothing.
use mathlib.Core.Path.{◌≡◌, refl, sym, ap, ◌∙◌}
use mathlib.Core.List.{List, [], ◌∷◌}
use Prim.Native.Nat.{ℕ, zero, suc, ◌+◌, ◌-◌, ◌*◌, ◌/◌, ◌%◌, ◌^◌, ◌≤◌, ◌<◌}
use native.Mathlib.Nat.{mod-lt, mod-eq_of_lt, zero-mod, div-add-mod', div-lt_iff_lt-mul, pow-suc, zero-add, suc-add}
use native.Mathlib.Omega.{arith}
use lib.ListN.{length}
use lib.Arith.{digits_mod, mod-mul}
use lib.Dec.{T}
use Rattle.numbers.specs.Limits.{most_symbols, deepest}
use Rattle.contexts.specs.Context.{is_context}
use Rattle.contexts.specs.Keys.{digits, desk_span, key_of, desk_of, len_of, eights, symbols_of, context_of}
use Rattle.contexts.proofs.Strings.{context_cons, context_length}
use Rattle.contexts.proofs.KeyOrder.{Within, pow_pos, digits_nil}

-- a fact of each length below 8
pub each_length : (P : ℕ → Type 0) → P 0 → P 1 → P 2 → P 3 → P 4 → P 5 → P 6 → P 7 → (l : ℕ) → l < 8 → P l
each_length P a b c d e f g h zero u = a
each_length P a b c d e f g h (suc zero) u = b
each_length P a b c d e f g h (suc (suc zero)) u = c
each_length P a b c d e f g h (suc (suc (suc zero))) u = d
each_length P a b c d e f g h (suc (suc (suc (suc zero)))) u = e
each_length P a b c d e f g h (suc (suc (suc (suc (suc zero))))) u = f
each_length P a b c d e f g h (suc (suc (suc (suc (suc (suc zero)))))) u = g
each_length P a b c d e f g h (suc (suc (suc (suc (suc (suc (suc zero))))))) u = h
each_length P a b c d e f g h (suc (suc (suc (suc (suc (suc (suc (suc l)))))))) u = absurd (omega arith)

pow_add : (l j : ℕ) → 8 ^ (l + j) ≡ 8 ^ l * 8 ^ j
pow_add zero j = rw (zero-add j) (omega arith)
pow_add (suc l) j = rw (suc-add l j) (let h = pow_add l j in omega (arith, pow-suc 8 (l + j), ap (λ (m : ℕ). m * 8 ^ j) (pow-suc 8 l)))

-- ---- the symbols of a key

-- they are below 8
symbols_within : (n l v : ℕ) → v < 8 ^ n → T (is_context most_symbols n (symbols_of n l v))
unfolding symbols_of is_context
symbols_within zero l v h = tt
symbols_within (suc n) zero v h = tt
symbols_within (suc n) (suc l) v h =
    context_cons most_symbols n (v / 8 ^ n) (symbols_of n l (v % 8 ^ n)) ((div-lt_iff_lt-mul (pow_pos n)).1 (omega arith)) (symbols_within n l (v % 8 ^ n) (mod-lt v (pow_pos n)))

pub context_of_within : (k : ℕ) → Within (context_of k)
context_of_within k = symbols_within deepest (k % 8) (k % desk_span / 8) (omega arith)

symbols_length : (n l v : ℕ) → l ≤ n → length (symbols_of n l v) ≡ l
unfolding symbols_of
symbols_length zero l v h = omega arith
symbols_length (suc n) zero v h = refl
symbols_length (suc n) (suc l) v h = ap suc (symbols_length n l (v % 8 ^ n) (omega arith))

-- as many as the length says
pub context_of_length : (k : ℕ) → len_of k ≤ deepest → length (context_of k) ≡ len_of k
context_of_length k h = symbols_length deepest (k % 8) (k % desk_span / 8) h

-- ---- a key is that of its context where nothing stands past its length

abbrev pub Ends : ℕ → Type 0
Ends k = k % eights (len_of k) ≡ len_of k

-- a key with nothing past its length has at most six symbols
pub ends_short : (k : ℕ) → Ends k → len_of k ≤ deepest
unfolding eights
ends_short k e = go (len_of k) (omega arith) e
  where
    go : (l : ℕ) → l < 8 → k % eights l ≡ l → l ≤ 6
    go l u = each_length (λ l. k % eights l ≡ l → l ≤ 6)
        (λ q. omega arith) (λ q. omega arith) (λ q. omega arith) (λ q. omega arith)
        (λ q. omega arith) (λ q. omega arith) (λ q. omega arith) (λ q. absurd (omega arith)) l u

-- the digits of the symbols of v are v, where the others are 0
digits_back : (n l j v : ℕ) → l + j ≡ n → v % 8 ^ j ≡ 0 → v < 8 ^ n → digits n (symbols_of n l v) ≡ v
unfolding digits symbols_of
digits_back zero l j v e z h = omega arith
digits_back (suc n) zero j v e z h =
    let q : 8 ^ suc n ≡ 8 ^ j = ap (λ (m : ℕ). 8 ^ m) (sym e ∙ omega arith) in
    sym (sym (mod-eq_of_lt {n = v} {m = 8 ^ j} (omega arith)) ∙ z)
digits_back (suc n) (suc l) j v e z h =
    let f : l + j ≡ n = omega arith in
    let w : v % 8 ^ n ≡ (v / 8 ^ j % 8 ^ l) * 8 ^ j + 0 = ap (λ (m : ℕ). v % 8 ^ m) (sym f) ∙ ap (λ (m : ℕ). v % m) (pow_add l j) ∙ mod-mul v (pow_pos l) (pow_pos j) ∙ ap (λ (m : ℕ). (v / 8 ^ j % 8 ^ l) * 8 ^ j + m) z in
    let y : v % 8 ^ n % 8 ^ j ≡ 0 = ap (λ (m : ℕ). m % 8 ^ j) w ∙ digits_mod (v / 8 ^ j % 8 ^ l) (pow_pos j) in
    ap (λ (m : ℕ). v / 8 ^ n * 8 ^ n + m) (digits_back n l j (v % 8 ^ n) f y (mod-lt v (pow_pos n))) ∙ div-add-mod' v (8 ^ n)

ends_digits : (k l : ℕ) → l < 8 → l ≤ 6 → k % eights l ≡ l → k % desk_span / 8 % 8 ^ (6 - l) ≡ 0
unfolding eights
ends_digits k l u = each_length (λ l. l ≤ 6 → k % eights l ≡ l → k % desk_span / 8 % 8 ^ (6 - l) ≡ 0)
    (λ h e. omega arith) (λ h e. omega arith) (λ h e. omega arith) (λ h e. omega arith)
    (λ h e. omega arith) (λ h e. omega arith) (λ h e. omega arith) (λ h e. absurd (omega arith)) l u

pub key_back : (k : ℕ) → len_of k ≤ deepest → Ends k → key_of (desk_of k) (context_of k) ≡ k
key_back k h e =
    let j = 6 - len_of k in
    let d : digits deepest (context_of k) ≡ k % desk_span / 8 = digits_back deepest (k % 8) j (k % desk_span / 8) (omega arith) (ends_digits k (len_of k) (omega arith) h e) (omega arith) in
    let l = context_of_length k h in
    omega arith

-- ---- the key of a context

digits_ends : (n j : ℕ) (s : List ℕ) → length s + j ≡ n → digits n s % 8 ^ j ≡ 0
unfolding digits
digits_ends n j [] e = ap (λ (m : ℕ). m % 8 ^ j) (digits_nil n) ∙ zero-mod (8 ^ j)
digits_ends zero j (a ∷ s) e = absurd (omega arith)
digits_ends (suc n) j (a ∷ s) e =
    let ih : digits n s % 8 ^ j ≡ 0 = digits_ends n j s (omega arith) in
    let q : 8 ^ n ≡ 8 ^ length s * 8 ^ j = ap (λ (m : ℕ). 8 ^ m) (let f : n ≡ length s + j = omega arith in f) ∙ pow_add (length s) j in
    let w : a * 8 ^ n + digits n s ≡ (a * 8 ^ length s + digits n s / 8 ^ j) * 8 ^ j + 0 = omega (arith, ap (λ (m : ℕ). a * m) q, div-add-mod' (digits n s) (8 ^ j)) in
    ap (λ (m : ℕ). m % 8 ^ j) w ∙ digits_mod (a * 8 ^ length s + digits n s / 8 ^ j) (pow_pos j)

ends_at : (d x l : ℕ) → l < 8 → l ≤ 6 → x % 8 ^ (6 - l) ≡ 0 → (d * desk_span + (x * 8 + l)) % eights l ≡ l
unfolding eights
ends_at d x l u = each_length (λ l. l ≤ 6 → x % 8 ^ (6 - l) ≡ 0 → (d * desk_span + (x * 8 + l)) % eights l ≡ l)
    (λ h e. omega arith) (λ h e. omega arith) (λ h e. omega arith) (λ h e. omega arith)
    (λ h e. omega arith) (λ h e. omega arith) (λ h e. omega arith) (λ h e. absurd (omega arith)) l u

pub key_ends : (d : ℕ) (s : List ℕ) → Within s → key_of d s % eights (length s) ≡ length s
key_ends d s c =
    let l = context_length most_symbols deepest s c in
    ends_at d (digits deepest s) (length s) (omega arith) l (digits_ends deepest (6 - length s) s (omega arith))

pub key_length : (d : ℕ) (s : List ℕ) → Within s → len_of (key_of d s) ≡ length s
key_length d s c = let l = context_length most_symbols deepest s c in omega arith
