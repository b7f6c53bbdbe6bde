-- The contexts that a symbol follows: those that begin the recent symbols, one of each length. Assumes nothing.
use mathlib.Core.Path.{◌≡◌, refl, sym, ap, subst, ◌∙◌}
use mathlib.Core.Bool.{Bool, ◌&&◌}
use mathlib.Core.List.{List, [], ◌∷◌}
use Prim.Native.Nat.{ℕ, zero, suc, ◌≤◌}
use native.Mathlib.Omega.{arith}
use lib.Dec.{T, eqb, ltb, eqb→eq, lt→ltb}
use lib.ListN.{length, take, length-take}
use Rattle.numbers.proofs.Tests.{bool_ext, both, left, right}
use Rattle.numbers.proofs.Orders.{eq→eqb}
use Rattle.contexts.specs.Context.{is_context, eqs, begins}
use Rattle.contexts.proofs.Strings.{newest_below, older_context, context_cons, eqs→eq, eq→eqs, begins→take, begins_take}

pub context_take : (A d j : ℕ) (r : List ℕ) → T (is_context A d r) → T (is_context A d (take j r))
unfolding is_context
context_take A d zero r c = tt
context_take A d (suc j) [] c = tt
context_take A zero (suc j) (x ∷ r) c = absurd c
context_take A (suc d) (suc j) (x ∷ r) c =
    context_cons A d x (take j r) (newest_below A d x r c) (context_take A d j r (older_context A d x r c))

pub begins_length : (s r : List ℕ) → T (begins s r) → length s ≤ length r
begins_length s r h = omega (arith, ap length (begins→take s r h), length-take (length s) r)

-- s is the one of length j where it begins the recent symbols and has that length ..
pub eqs_take : (s r : List ℕ) (j : ℕ) → j ≤ length r → eqs (take j r) s ≡ (begins s r && eqb (length s) j)
eqs_take s r j l = bool_ext _ _ to back
  where
    to : T (eqs (take j r) s) → T (begins s r && eqb (length s) j)
    to h =
        let e = eqs→eq (take j r) s h in
        let n : length s ≡ j = omega (arith, ap length e, length-take j r) in
        both (begins s r) (eqb (length s) j) (subst (λ (z : List ℕ). T (begins z r)) e (begins_take j r)) (eq→eqb (length s) j n)

    back : T (begins s r && eqb (length s) j) → T (eqs (take j r) s)
    back h =
        let e = begins→take s r (left (begins s r) (eqb (length s) j) h) in
        let n = eqb→eq (length s) j (right (begins s r) (eqb (length s) j) h) in
        eq→eqs (take j r) s (ap (λ (z : ℕ). take z r) (sym n) ∙ e)

-- .. and one of all where it begins them
pub begins_all : (s r : List ℕ) → (begins s r && ltb (length s) (suc (length r))) ≡ begins s r
begins_all s r =
    bool_ext _ _ (left (begins s r) (ltb (length s) (suc (length r))))
    (λ h. both (begins s r) _ h (lt→ltb (length s) (suc (length r)) (let l = begins_length s r h in omega arith)))

-- a context no longer than D begins a string where it begins its last D symbols
pub begins_recent : (D : ℕ) (s w : List ℕ) → length s ≤ D → begins s (take D w) ≡ begins s w
begins_recent D [] w l = refl
begins_recent zero (x ∷ s) w l = absurd (omega arith)
begins_recent (suc D) (x ∷ s) [] l = refl
begins_recent (suc D) (x ∷ s) (y ∷ w) l = ap (λ (z : Bool). eqb x y && z) (begins_recent D s w (omega arith))
