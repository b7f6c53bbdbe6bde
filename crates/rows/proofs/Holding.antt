-- The list of a triple's members holds exactly the triple. Assumes nothing.
use Prim.Native.Nat.{ℕ, zero, suc, ◌<◌}
use native.Mathlib.Nat.{le_refl, le-suc, le_trans}
use native.Mathlib.Omega.{arith}
use mathlib.Core.Path.{◌≡◌, refl, sym, ap, subst}
use mathlib.Core.Bool.{Bool, true, false}
use mathlib.Core.Logic.{◌⊎◌, inl, inr}
use mathlib.Core.List.Memᴰ
use mathlib.Core.List.{List, [], ◌∷◌, ◌++◌, map, Memᴰ}
use lib.Dec.{T, ltb, ltb→lt, lt→ltb}
use Rattle.numbers.proofs.Tests.{both, left, right}
use Rattle.numbers.proofs.Orders.{Leb, le, gt, leb_view}
use Rattle.contexts.specs.Context.{is_context}
use Rattle.contexts.specs.Sitting.{first, second}
use Rattle.estimate.specs.Trees.{In, Kind, shared, own, Triple, below}
use Rattle.rows.specs.Members.{Member, member, prefixed, gather, only_if, here, members}

-- ---- which members are there

mem_gather : (n : ℕ) (g : ℕ → List Member) (a : ℕ) {r : Member} → a < n → Memᴰ r (g a) → Memᴰ r (gather n g)
unfolding gather
mem_gather zero g a l m = absurd (omega arith)
mem_gather (suc n) g a {r} l m = go (ltb a n) (leb_view (suc a) n) (λ h. mem_gather n g a h m)
  where
    go : (b : Bool) → Leb (suc a) n b → (a < n → Memᴰ r (gather n g)) → Memᴰ r (gather n g ++ g n)
    go b (le h) ih = Memᴰ.append_left (g n) (ih h)
    go b (gt h) ih = let e : a ≡ n = omega arith in Memᴰ.append_right (gather n g) (subst (λ (c : ℕ). Memᴰ r (g c)) e m)

pub of_gather : (n : ℕ) (g : ℕ → List Member) {r : Member} → Memᴰ r (gather n g) → (a : ℕ) × (a < n) × Memᴰ r (g a)
unfolding gather
of_gather zero g m = elim m [ ]
of_gather (suc n) g {r} m = go (of_gather n g) (Memᴰ.append_cases (gather n g) m)
  where
    go : (Memᴰ r (gather n g) → (a : ℕ) × (a < n) × Memᴰ r (g a)) → Memᴰ r (gather n g) ⊎ Memᴰ r (g n) → (a : ℕ) × (a < suc n) × Memᴰ r (g a)
    go ih (inl h) = let x = ih h in (x.0, le_trans x.1 (le-suc n), x.2)
    go ih (inr h) = (n, le_refl (suc n), h)

pub of_only : (b : Bool) (q : Member) (rest : List Member) {r : Member} → Memᴰ r (only_if b q rest) → (T b × (r ≡ q)) ⊎ Memᴰ r rest
of_only true q rest (Memᴰ.head e) = inl (tt, e)
of_only true q rest (Memᴰ.tail m) = inr m
of_only false q rest m = inr m

mem_only : (b : Bool) (q : Member) (rest : List Member) → T b → Memᴰ q (only_if b q rest)
mem_only true q rest t = Memᴰ.head refl
mem_only false q rest t = absurd t

mem_rest : (b : Bool) (q : Member) (rest : List Member) {r : Member} → Memᴰ r rest → Memᴰ r (only_if b q rest)
mem_rest true q rest m = Memᴰ.tail m
mem_rest false q rest m = m

mem_here : (t : Triple) (k : Kind) → In [] (t k) → Memᴰ (member k []) (here t)
mem_here t shared m = mem_only (t shared []) _ _ m
mem_here t (own first) m = mem_rest (t shared []) _ _ (mem_only (t (own first) []) _ _ m)
mem_here t (own second) m = mem_rest (t shared []) _ _ (mem_rest (t (own first) []) _ _ (mem_only (t (own second) []) _ _ m))

-- a member of the triple t: its context is a member of t's set of its kind
abbrev pub MemberOf : Triple → Member → Type 0
MemberOf t r = In r.context (t r.kind)

pub of_here : (t : Triple) {r : Member} → Memᴰ r (here t) → (r.context ≡ []) × MemberOf t r
of_here t {r} m = one (of_only (t shared []) (member shared []) _ m)
  where
    is : (k : Kind) → T (t k []) × (r ≡ member k []) → (r.context ≡ []) × MemberOf t r
    is k h = (ap (λ (q : Member). q.context) h.1, subst (MemberOf t) (sym h.1) h.0)

    three : (T (t (own second) []) × (r ≡ member (own second) [])) ⊎ Memᴰ r [] → (r.context ≡ []) × MemberOf t r
    three (inl h) = is (own second) h
    three (inr h) = elim h [ ]

    two : (T (t (own first) []) × (r ≡ member (own first) [])) ⊎ Memᴰ r (only_if (t (own second) []) (member (own second) []) []) → (r.context ≡ []) × MemberOf t r
    two (inl h) = is (own first) h
    two (inr h) = three (of_only (t (own second) []) (member (own second) []) _ h)

    one : (T (t shared []) × (r ≡ member shared [])) ⊎ Memᴰ r (only_if (t (own first) []) (member (own first) []) (only_if (t (own second) []) (member (own second) []) []))
        → (r.context ≡ []) × MemberOf t r
    one (inl h) = is shared h
    one (inr h) = two (of_only (t (own first) []) (member (own first) []) _ h)

pub in_members : (A d : ℕ) (t : Triple) (k : Kind) (s : List ℕ) → T (is_context A d s) → In s (t k) → Memᴰ (member k s) (members A d t)
unfolding members is_context
in_members A zero t k [] c m = mem_here t k m
in_members A zero t k (a ∷ s) c m = absurd c
in_members A (suc d) t k [] c m = Memᴰ.append_left _ (mem_here t k m)
in_members A (suc d) t k (a ∷ s) c m =
    Memᴰ.append_right (here t)
    (mem_gather A _ a (ltb→lt a A (left (ltb a A) _ c)) (Memᴰ.map (prefixed a) (in_members A d (below a t) k s (right (ltb a A) _ c) m)))

pub of_members : (A d : ℕ) (t : Triple) {r : Member} → Memᴰ r (members A d t) → T (is_context A d r.context) × MemberOf t r
unfolding members is_context
of_members A zero t {r} m = let h = of_here t m in (subst (λ (s : List ℕ). T (is_context A zero s)) (sym h.0) tt, h.1)
of_members A (suc d) t {r} m = go (λ a q. of_members A d (below a t) {r = q}) (Memᴰ.append_cases (here t) m)
  where
    go : ((a : ℕ) (q : Member) → Memᴰ q (members A d (below a t)) → T (is_context A d q.context) × MemberOf (below a t) q)
        → Memᴰ r (here t) ⊎ Memᴰ r (gather A (λ a. map (prefixed a) (members A d (below a t)))) → T (is_context A (suc d) r.context) × MemberOf t r
    go ih (inl m) = let h = of_here t m in (subst (λ (s : List ℕ). T (is_context A (suc d) s)) (sym h.0) tt, h.1)
    go ih (inr m) =
        let x = of_gather A _ m in
        let y = Memᴰ.of_map (prefixed x.0) _ x.2 in
        let z = ih x.0 y.0 y.1 in
        subst (λ (q : Member). T (is_context A (suc d) q.context) × MemberOf t q) y.2 (both (ltb x.0 A) _ (lt→ltb x.0 A x.1) z.0, z.1)
