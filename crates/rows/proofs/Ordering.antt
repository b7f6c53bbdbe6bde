-- The members of a triple are strictly increasing, and no two increasing lists with the same members differ. Assumes nothing.
use Prim.Native.Nat.{ℕ, zero, suc}
use native.Mathlib.Omega.{arith}
use mathlib.Core.Path.{◌≡◌, refl, sym, ap, ap₂, subst, ◌∙◌}
use mathlib.Core.Bool.{Bool, true, false}
use mathlib.Core.Logic.{◌⊎◌, inl, inr}
use mathlib.Core.List.Memᴰ
use mathlib.Core.List.{List, [], ◌∷◌, ◌++◌, map, map-id, Memᴰ}
use lib.Dec.{T, lit<}
use Rattle.contexts.specs.Context.{precedes}
use Rattle.contexts.specs.Sitting.{first, second}
use Rattle.contexts.proofs.RowOrder.{precedes_less, precedes_older, precedes_asym}
use Rattle.estimate.specs.Trees.{Kind, shared, own, Triple, below}
use Rattle.rows.specs.Members.{Member, member, Before, Increasing, prefixed, gather, only_if, here, members}
use Rattle.rows.proofs.Holding.{of_gather, of_only, of_here}

-- one symbol more recent on both sides keeps the order
before_push : (a : ℕ) (p q : Member) → Before p q → Before (prefixed a p) (prefixed a q)
before_push a p q (inl t) = inl (precedes_older a p.context q.context t)
before_push a p q (inr (e, l)) = inr (ap {B = List ℕ} (λ (s : List ℕ). a ∷ s) e, l)

increasing_append : (xs ys : List Member) → Increasing xs → Increasing ys → ((x y : Member) → Memᴰ x xs → Memᴰ y ys → Before x y) → Increasing (xs ++ ys)
increasing_append [] ys p q b = q
increasing_append (x ∷ xs) ys p q b = (
  λ r m. go r (Memᴰ.append_cases xs m),
  increasing_append xs ys p.1 q (λ u v m n. b u v (Memᴰ.tail m) n),
)
  where
    go : (r : Member) → Memᴰ r xs ⊎ Memᴰ r ys → Before x r
    go r (inl m) = p.0 r m
    go r (inr m) = b x r (Memᴰ.head refl) m

increasing_push : (a : ℕ) (xs : List Member) → Increasing xs → Increasing (map (prefixed a) xs)
increasing_push a [] p = tt
increasing_push a (x ∷ xs) p = (
  λ q m. let y = Memᴰ.of_map (prefixed a) xs m in subst (Before (prefixed a x)) y.2 (before_push a x y.0 (p.0 y.0 y.1)),
  increasing_push a xs p.1,
)

increasing_gather : (n : ℕ) (g : ℕ → List Member) → ((a : ℕ) → Increasing (g a)) → Increasing (gather n (λ a. map (prefixed a) (g a)))
unfolding gather
increasing_gather zero g p = tt
increasing_gather (suc n) g p = increasing_append (gather n (λ a. map (prefixed a) (g a))) _ (increasing_gather n g p) (increasing_push n (g n) (p n)) cross
  where
    cross : (x y : Member) → Memᴰ x (gather n (λ a. map (prefixed a) (g a))) → Memᴰ y (map (prefixed n) (g n)) → Before x y
    cross x y m k =
        let u = of_gather n (λ a. map (prefixed a) (g a)) m in
        let v = Memᴰ.of_map (prefixed u.0) (g u.0) u.2 in
        let w = Memᴰ.of_map (prefixed n) (g n) k in
        subst (λ (r : Member). Before r y) v.2 (subst (Before (prefixed u.0 v.0)) w.2 (inl (precedes_less u.0 n v.0.context w.0.context u.1)))

increasing_only : (b : Bool) (r : Member) (rest : List Member) → ((q : Member) → Memᴰ q rest → Before r q) → Increasing rest → Increasing (only_if b r rest)
increasing_only true r rest h p = (h, p)
increasing_only false r rest h p = p

increasing_here : (b c d : Bool) → Increasing (only_if b (member shared []) (only_if c (member (own first) []) (only_if d (member (own second) []) [])))
increasing_here b c d =
    increasing_only b (member shared []) (only_if c (member (own first) []) three) (λ q m. one q (of_only c (member (own first) []) three m))
    (increasing_only c (member (own first) []) three (λ q m. two q (of_only d (member (own second) []) [] m))
    (increasing_only d (member (own second) []) [] (λ q m. elim m [ ]) tt))
  where
    three : List Member
    three = only_if d (member (own second) []) []

    is : (r q : Member) {k : Kind} → Before r (member k []) → q ≡ member k [] → Before r q
    is r q h e = subst (Before r) (sym e) h

    two : (q : Member) → (T d × (q ≡ member (own second) [])) ⊎ Memᴰ q [] → Before (member (own first) []) q
    two q (inl h) = is (member (own first) []) q (inr (refl, lit< tt)) h.1
    two q (inr m) = elim m [ ]

    last : (q : Member) → (T d × (q ≡ member (own second) [])) ⊎ Memᴰ q [] → Before (member shared []) q
    last q (inl h) = is (member shared []) q (inr (refl, lit< tt)) h.1
    last q (inr m) = elim m [ ]

    one : (q : Member) → (T c × (q ≡ member (own first) [])) ⊎ Memᴰ q three → Before (member shared []) q
    one q (inl h) = is (member shared []) q (inr (refl, lit< tt)) h.1
    one q (inr m) = last q (of_only d (member (own second) []) [] m)

pub members_increasing : (A d : ℕ) (t : Triple) → Increasing (members A d t)
unfolding members
members_increasing A zero t = increasing_here (t shared []) (t (own first) []) (t (own second) [])
members_increasing A (suc d) t =
    increasing_append (here t) _ (increasing_here (t shared []) (t (own first) []) (t (own second) []))
    (increasing_gather A (λ a. members A d (below a t)) (λ a. members_increasing A d (below a t))) cross
  where
    cross : (x y : Member) → Memᴰ x (here t) → Memᴰ y (gather A (λ a. map (prefixed a) (members A d (below a t)))) → Before x y
    cross x y m k =
        let v = of_gather A (λ a. map (prefixed a) (members A d (below a t))) k in
        let w = Memᴰ.of_map (prefixed v.0) (members A d (below v.0 t)) v.2 in
        subst (Before x) w.2 (inl (subst (λ (s : List ℕ). T (precedes s (v.0 ∷ w.0.context))) (sym (of_here t m).0) tt))

-- no context precedes itself
not_itself : (s t : List ℕ) → s ≡ t → T (precedes s t) → ⊥
not_itself s t e p = precedes_asym s t p (subst (λ (u : List ℕ). T (precedes t u)) (sym e) (subst (λ (u : List ℕ). T (precedes u t)) e p))

-- ---- an increasing list is fixed by its members

before_asym : (p q : Member) → Before p q → Before q p → ⊥
before_asym p q (inl s) (inl t) = precedes_asym p.context q.context s t
before_asym p q (inl s) (inr (e, l)) = not_itself p.context q.context (sym e) s
before_asym p q (inr (e, l)) (inl t) = not_itself q.context p.context (sym e) t
before_asym p q (inr (e, l)) (inr (f, k)) = omega arith

pub increasing_once : (x : Member) (xs : List Member) → Increasing (x ∷ xs) → (r : Member) → Memᴰ r xs → r ≡ x → ⊥
increasing_once x xs p r m e = let h = subst (Before x) e (p.0 r m) in before_asym x x h h

-- .. also a list of what has a member each, as rows do, where these increase
module _ {X : Type 0} (by : X → Member) where
  once_by : (x : X) (xs : List X) → Increasing (map by (x ∷ xs)) → (r : X) → Memᴰ r xs → r ≡ x → ⊥
  once_by x xs p r m e = increasing_once (by x) (map by xs) p (by r) (Memᴰ.map by m) (ap by e)

  pub unique_by : (xs ys : List X) → Increasing (map by xs) → Increasing (map by ys) → ((r : X) → Memᴰ r xs → Memᴰ r ys) → ((r : X) → Memᴰ r ys → Memᴰ r xs)
      → xs ≡ ys
  unique_by [] [] p q to from = refl
  unique_by [] (y ∷ ys) p q to from = elim (from y (Memᴰ.head refl)) [ ]
  unique_by (x ∷ xs) [] p q to from = elim (to x (Memᴰ.head refl)) [ ]
  unique_by (x ∷ xs) (y ∷ ys) p q to from =
      ap₂ {C = List X} ◌∷◌ same
      (unique_by xs ys p.1 q.1
      (λ r m. rest y ys r (λ e. once_by x xs p r m (e ∙ sym same)) (Memᴰ.cases_cons (to r (Memᴰ.tail m))))
      (λ r m. rest x xs r (λ e. once_by y ys q r m (e ∙ same)) (Memᴰ.cases_cons (from r (Memᴰ.tail m)))))
    where
      first_same : (x ≡ y) ⊎ Memᴰ x ys → (y ≡ x) ⊎ Memᴰ y xs → x ≡ y
      first_same (inl e) n = e
      first_same (inr m) (inl e) = sym e
      first_same (inr m) (inr n) = absurd (before_asym (by x) (by y) (p.0 (by y) (Memᴰ.map by n)) (q.0 (by x) (Memᴰ.map by m)))

      same : x ≡ y
      same = first_same (Memᴰ.cases_cons (to x (Memᴰ.head refl))) (Memᴰ.cases_cons (from y (Memᴰ.head refl)))

      rest : (z : X) (zs : List X) (r : X) → (r ≡ z → ⊥) → (r ≡ z) ⊎ Memᴰ r zs → Memᴰ r zs
      rest z zs r n (inl e) = absurd (n e)
      rest z zs r n (inr m) = m

pub increasing_unique : (xs ys : List Member) → Increasing xs → Increasing ys → ((r : Member) → Memᴰ r xs → Memᴰ r ys) → ((r : Member) → Memᴰ r ys → Memᴰ r xs)
    → xs ≡ ys
increasing_unique xs ys p q = unique_by (λ r. r) xs ys (subst Increasing (sym (map-id xs)) p) (subst Increasing (sym (map-id ys)) q)
