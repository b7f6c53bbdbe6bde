-- A key and its parent's: what the pass's arithmetic finds is the key of the context less its oldest symbol. Assumes nothing.
use mathlib.Core.Path.{◌≡◌, refl, sym, ap, subst, ◌∙◌}
use mathlib.Core.List.{List, [], ◌∷◌, ◌++◌}
use Prim.Native.Nat.{ℕ, suc, ◌+◌, ◌-◌, ◌*◌, ◌/◌, ◌%◌, ◌^◌, ◌≤◌, ◌<◌}
use native.Mathlib.Omega.{arith}
use lib.ListN.{length}
use Rattle.numbers.specs.Limits.{most_symbols, deepest}
use Rattle.contexts.specs.Context.{parent_of}
use Rattle.contexts.specs.Keys.{context_key, desk_span, key_of, desk_of, context_of, len_of, eights}
use Rattle.contexts.proofs.Strings.{context_length}
use Rattle.contexts.proofs.KeyOrder.{Within, desk_of_key, context_of_key, key_child}
use Rattle.contexts.proofs.Oldest.{none, some, oldest, parent_snoc, length_snoc, context_parent, oldest_below}
use Rattle.contexts.proofs.Digits.{each_length, Ends, context_of_within, context_of_length, key_back, key_ends, key_length}
use Rattle.store.specs.Sound.{parent_key}
use Rattle.store.specs.Walk.{up_mark}

-- a child's key from its parent's key x: a is the oldest symbol
child : (x a l : ℕ) → l < 8 → l < 6 → a < 8 → x % eights l ≡ l
    → ((x + a * eights (suc l) + 1) / eights (suc l) / 8 * 8 * eights (suc l) + suc l ≡ x + 1)
    × ((x + a * eights (suc l) + 1) % desk_span / eights (suc l) % 8 ≡ a)
    × (x + a * eights (suc l) + 1 + l < x + eights l)
unfolding eights
child x a l u = each_length
    (λ l. l < 6 → a < 8 → x % eights l ≡ l
    → ((x + a * eights (suc l) + 1) / eights (suc l) / 8 * 8 * eights (suc l) + suc l ≡ x + 1)
    × ((x + a * eights (suc l) + 1) % desk_span / eights (suc l) % 8 ≡ a)
    × (x + a * eights (suc l) + 1 + l < x + eights l))
    (λ h b e. omega arith) (λ h b e. omega arith) (λ h b e. omega arith) (λ h b e. omega arith)
    (λ h b e. omega arith) (λ h b e. omega arith) (λ h b e. absurd (omega arith)) (λ h b e. absurd (omega arith)) l u

eights_suc : (l : ℕ) → l < 6 → eights (suc l) ≡ 8 ^ suc (5 - l)
unfolding eights
eights_suc l h = ap (λ (m : ℕ). 8 ^ m) (let f : 7 - suc l ≡ suc (5 - l) = omega arith in f)

-- what is known of a key with a parent
pub record Above (k : ℕ) : Type 0 where
  -- the oldest symbol, as the pass reads it
  pub symbol : ℕ
  pub is : context_of k ≡ parent_of (context_of k) ++ symbol ∷ []
  pub reads : k % desk_span / eights (len_of k) % 8 ≡ symbol
  -- the parent's key: its mark, its context, desk and length
  pub mark : up_mark k ≡ parent_key k + 1
  pub context : context_of (parent_key k) ≡ parent_of (context_of k)
  pub desk : desk_of (parent_key k) ≡ desk_of k
  pub shorter : len_of (parent_key k) + 1 ≡ len_of k
  pub ends : Ends (parent_key k)
  -- it stands before the key, which lies within the room of its oldest symbol
  pub before : parent_key k < k
  pub near : k + len_of (parent_key k) < parent_key k + eights (len_of (parent_key k))

-- the same of a key that is put together
above_key : (d : ℕ) (p : List ℕ) (a k : ℕ) → Within (p ++ a ∷ []) → context_of k ≡ p ++ a ∷ [] → desk_of k ≡ d → key_of d (p ++ a ∷ []) ≡ k → Above k
unfolding up_mark
above_key d p a k c e q b = record {
  symbol = a;
  is = e ∙ ap (λ (s : List ℕ). s ++ a ∷ []) (sym up);
  reads = subst (λ (m : ℕ). m % desk_span / eights (len_of m) % 8 ≡ a) k_is (subst (λ (m : ℕ). (x + a * eights (suc l) + 1) % desk_span / eights m % 8 ≡ a) (sym len) facts.1);
  mark = subst (λ (m : ℕ). m / eights (len_of m) / 8 * 8 * eights (len_of m) + len_of m ≡ parent_key k + 1) k_is
      (subst (λ (m : ℕ). (x + a * eights (suc l) + 1) / eights m / 8 * 8 * eights m + m ≡ parent_key k + 1) (sym len) (facts.0 ∙ ap (λ (m : ℕ). m + 1) (sym same)));
  context = ap context_of same ∙ context_of_key d p cp ∙ sym up;
  desk = ap desk_of same ∙ desk_of_key d p cp ∙ sym q;
  shorter = subst (λ (m : ℕ). len_of (parent_key k) + 1 ≡ len_of m) k_is (ap (λ (m : ℕ). len_of m + 1) same ∙ ap (λ (m : ℕ). m + 1) lx ∙ sym (len ∙ omega arith));
  ends = subst Ends (sym same) (subst (λ (m : ℕ). x % eights m ≡ m) (sym lx) ex);
  before = subst (λ (m : ℕ). m < k) (sym same) (subst (λ (m : ℕ). x < m) k_is (omega arith));
  near = subst (λ (m : ℕ). k + len_of m < m + eights (len_of m)) (sym same) (subst (λ (m : ℕ). k + m < x + eights m) (sym lx) (subst (λ (m : ℕ). m + l < x + eights l) k_is facts.2));
}
  where
    x : ℕ
    x = key_of d p

    l : ℕ
    l = length p

    cp : Within p
    cp = context_parent most_symbols deepest p a c

    short : l < 6
    short = let h = context_length most_symbols deepest (p ++ a ∷ []) c in omega (arith, length_snoc p a)

    up : parent_of (context_of k) ≡ p
    up = ap parent_of e ∙ parent_snoc p a

    same : parent_key k ≡ x
    same = ap (λ (s : List ℕ). key_of (desk_of k) s) up ∙ ap (λ (m : ℕ). key_of m p) q

    lx : len_of x ≡ l
    lx = key_length d p cp

    ex : x % eights l ≡ l
    ex = key_ends d p cp

    small : a < 8
    small = oldest_below most_symbols deepest p a c

    facts : ((x + a * eights (suc l) + 1) / eights (suc l) / 8 * 8 * eights (suc l) + suc l ≡ x + 1) × ((x + a * eights (suc l) + 1) % desk_span / eights (suc l) % 8 ≡ a) × (x + a * eights (suc l) + 1 + l < x + eights l)
    facts = child x a l (let h = short in omega arith) short small ex

    k_is : x + a * eights (suc l) + 1 ≡ k
    k_is =
        let j : length p + suc (5 - l) ≡ 6 = (let h = short in omega arith) in
        let f : context_key (p ++ a ∷ []) ≡ context_key p + a * 8 ^ suc (5 - l) + 1 = key_child (5 - l) p a j in
        let g : a * eights (suc l) ≡ a * 8 ^ suc (5 - l) = ap (λ (m : ℕ). a * m) (eights_suc l short) in
        let h : key_of d (p ++ a ∷ []) ≡ x + a * eights (suc l) + 1 = omega arith in
        sym h ∙ b

    len : len_of (x + a * eights (suc l) + 1) ≡ suc l
    len = ap len_of k_is ∙ ap len_of (sym b) ∙ key_length d (p ++ a ∷ []) c ∙ length_snoc p a

-- a key of length 1 to 6 with nothing past its length
pub above : (k : ℕ) → 1 ≤ len_of k → len_of k ≤ deepest → Ends k → Above k
above k low high e = elim (oldest (context_of k)) [
  | none q ↦ absurd (let h = context_of_length k high in omega (arith, ap length q))
  | some p a q ↦ above_key (desk_of k) p a k (subst Within q (context_of_within k)) q refl (ap (key_of (desk_of k)) (sym q) ∙ key_back k high e)
]

-- the empty context's mark is 0
pub root_mark : (k : ℕ) → desk_of k < 8 → len_of k ≡ 0 → up_mark k ≡ 0
unfolding up_mark eights
root_mark k h e = rw e (omega arith)

-- two keys of one length, within the room of its oldest symbol: no other
pub apart : (p k l : ℕ) → l < 8 → p % eights l ≡ l → k % eights l ≡ l → p < k → k + l < p + eights l → ⊥
unfolding eights
apart p k l u = each_length (λ l. p % eights l ≡ l → k % eights l ≡ l → p < k → k + l < p + eights l → ⊥)
    (λ a b c d. omega arith) (λ a b c d. omega arith) (λ a b c d. omega arith) (λ a b c d. omega arith)
    (λ a b c d. omega arith) (λ a b c d. omega arith) (λ a b c d. omega arith) (λ a b c d. omega arith) l u
