-- The members of a triple as seen from a string, at it and at its children. Assumes nothing.
use Prim.Native.Nat.{ℕ, zero, suc, ◌<◌}
use native.Mathlib.Nat.{le_refl, le-suc, le_trans}
use mathlib.Core.Path.{◌≡◌, refl, sym, ap, ap₂, fun_ext, ◌∙◌}
use mathlib.Core.Bool.{Bool, true, false}
use mathlib.Core.List.{List, [], ◌∷◌, ◌++◌, map, append-nil, append_assoc, map-append}
use Rattle.contexts.specs.Sitting.{first, second}
use Rattle.estimate.specs.Trees.{Kind, shared, own, Triple, below}
use Rattle.rows.specs.Members.{Member, member, prefixed, gather, only_if, here, members}
use Rattle.rows.specs.Walk.{older}

-- a member seen from s, as a member
abbrev pub prefix : List ℕ → Member → Member
prefix s r = member r.kind (s ++ r.context)

pub gather_cong : (n : ℕ) {g h : ℕ → List Member} → ((a : ℕ) → a < n → g a ≡ h a) → gather n g ≡ gather n h
unfolding gather
gather_cong zero e = refl
gather_cong (suc n) e = ap₂ ◌++◌ (gather_cong n (λ a l. e a (le_trans l (le-suc n)))) (e n (le_refl (suc n)))

pub gather_none : (n : ℕ) → gather n (λ a. []) ≡ []
unfolding gather
gather_none zero = refl
gather_none (suc n) = rw (gather_none n)

pub map_gather : (h : Member → Member) (n : ℕ) (g : ℕ → List Member) → map h (gather n g) ≡ gather n (λ a. map h (g a))
unfolding gather
map_gather h zero g = refl
map_gather h (suc n) g = map-append h (gather n g) (g n) ∙ ap (λ (l : List Member). l ++ map h (g n)) (map_gather h n g)

pub prefix_push : (s : List ℕ) (a : ℕ) (rs : List Member) → map (prefix s) (map (prefixed a) rs) ≡ map (prefix (older s a)) rs
prefix_push s a [] = refl
prefix_push s a (r ∷ rs) = ap₂ {C = List Member} ◌∷◌ (ap (member r.kind) (sym (append_assoc s (a ∷ []) r.context))) (prefix_push s a rs)

pub prefix_only : (s : List ℕ) (b : Bool) (k : Kind) (rest : List Member) → map (prefix s) (only_if b (member k []) rest) ≡ only_if b (member k s) (map (prefix s) rest)
prefix_only s true k rest = ap (λ (u : List ℕ). member k u ∷ map (prefix s) rest) (append-nil s)
prefix_only s false k rest = refl

-- what a triple has at the root, and at the children
unfoldable pub root_at : List ℕ → Bool → Bool → Bool → List Member
root_at s b m n = only_if b (member shared s) (only_if m (member (own first) s) (only_if n (member (own second) s) []))

pub prefix_here : (s : List ℕ) (t : Triple) → map (prefix s) (here t) ≡ root_at s (t shared []) (t (own first) []) (t (own second) [])
unfolding root_at
prefix_here s t = simp prefix_only

pub members_suc : (A d : ℕ) (t : Triple) (s : List ℕ)
    → map (prefix s) (members A (suc d) t) ≡ root_at s (t shared []) (t (own first) []) (t (own second) []) ++ gather A (λ a. map (prefix (older s a)) (members A d (below a t)))
unfolding members
members_suc A d t s =
    map-append (prefix s) (here t) _
    ∙ ap₂ ◌++◌ (prefix_here s t) (map_gather (prefix s) A _ ∙ gather_cong A (λ a l. prefix_push s a (members A d (below a t))))

pub members_empty : (A d : ℕ) → members A d (λ k s. false) ≡ []
unfolding members
members_empty A zero = refl
members_empty A (suc d) = gather_cong A (λ a l. ap (map (prefixed a)) (members_empty A d)) ∙ gather_none A

-- where a triple holds the empty string alone
pub members_top : (A d : ℕ) (t : Triple) → ((k : Kind) (a : ℕ) (u : List ℕ) → t k (a ∷ u) ≡ false) → members A d t ≡ here t
unfolding members
members_top A zero t e = refl
members_top A (suc d) t e =
    ap (here t ++◌) (gather_cong A (λ a l. ap (λ (u : Triple). map (prefixed a) (members A d u)) (fun_ext (λ k. fun_ext (e k a))) ∙ ap (map (prefixed a)) (members_empty A d)) ∙ gather_none A)
    ∙ append-nil (here t)
