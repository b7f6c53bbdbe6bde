-- The records around the place of a key: those before it come before every greater key, and those from there on after every key up to the first held.
-- Assumes nothing.
use mathlib.Core.Path.{◌≡◌, refl, ap, subst, ◌∙◌}
use mathlib.Core.Bool.{Bool, true, false, ◌||◌}
use mathlib.Core.List.{List, [], ◌∷◌, ◌++◌}
use Prim.Native.Nat.{ℕ, suc, ◌≤◌}
use native.Mathlib.Omega.{arith}
use borrow.Author.Tests.{lt-ltb, le-ltb, eq-eqb}
use lib.Dec.{T, eqb}
use lib.ListN.{take, drop, get_or}
use Rattle.numbers.proofs.Orders.{Leb, le, gt, leb_view, less, same, more, order}
use Rattle.records.specs.Records.{key, keys, rises}
use Rattle.records.specs.Held.{rank, held}
use Rattle.records.specs.Bumped.{bumped_at}
use Rattle.records.specs.Located.{Clear}
use Rattle.records.proofs.Rising.{rises_rest, rises_cons}
use Rattle.records.proofs.Bumping.{bumped_later}

-- what is held goes by the keys alone
pub held_keys : (k : ℕ) (xs ys : List (List ℕ)) → keys xs ≡ keys ys → held k xs ≡ held k ys
unfolding held
held_keys k [] [] e = refl
held_keys k [] (y ∷ ys) e = let z : ◌≡◌ {A = ℕ} 0 1 = cc in absurd (omega arith)
held_keys k (x ∷ xs) [] e = let z : ◌≡◌ {A = ℕ} 0 1 = cc in absurd (omega arith)
held_keys k (x ∷ xs) (y ∷ ys) e =
    let first : key x ≡ key y = ap (λ (t : List ℕ). get_or t 0 0) e in
    rw (first, held_keys k xs ys (ap (drop 1) e))

-- ---- at the place of a key

-- the records before the place of k come before k'
pub front_bumped : (k k' c : ℕ) (rs ys : List (List ℕ)) → k ≤ k' → bumped_at k' c (take (rank k (keys rs)) rs ++ ys) ≡ take (rank k (keys rs)) rs ++ bumped_at k' c ys
unfolding rank
front_bumped k k' c [] ys h = refl
front_bumped k k' c (r ∷ rs) ys h = go (leb_view k (key r)) (front_bumped k k' c rs ys h)
  where
    go : {t : Bool} → Leb k (key r) t → bumped_at k' c (take (rank k (keys rs)) rs ++ ys) ≡ take (rank k (keys rs)) rs ++ bumped_at k' c ys
        → bumped_at k' c (take (rank k (key r ∷ keys rs)) (r ∷ rs) ++ ys) ≡ take (rank k (key r ∷ keys rs)) (r ∷ rs) ++ bumped_at k' c ys
    go (gt g) ih = rw (lt-ltb (key r) k g) (bumped_later k' c r (take (rank k (keys rs)) rs ++ ys) (omega arith) ∙ ap (λ (t : List (List ℕ)). r ∷ t) ih)
    go (le g) ih = rw (le-ltb (key r) k g)

-- .. and those from there on after k', where no record has a key from k to k'
pub back_rises : (k k' lo : ℕ) (rs : List (List ℕ)) → T (rises lo (keys rs)) → Clear k k' rs → T (rises (suc k') (keys (drop (rank k (keys rs)) rs)))
unfolding rank held rises
back_rises k k' lo [] up free = tt
back_rises k k' lo (r ∷ rs) up free =
    let rest = rises_rest lo (key r) (keys rs) up in
    go (leb_view k (key r)) rest (back_rises k k' (suc (key r)) rs rest (λ x a b. tail (held x rs) (eqb (key r) x) (free x a b)))
  where
    own : (b : Bool) → (true || b) ≡ false → ⊥
    own b e = subst T e tt

    tail : (b : Bool) (u : Bool) → (u || b) ≡ false → b ≡ false
    tail b true e = absurd (subst T e tt)
    tail b false e = e

    go : {t : Bool} → Leb k (key r) t → T (rises (suc (key r)) (keys rs)) → T (rises (suc k') (keys (drop (rank k (keys rs)) rs)))
        → T (rises (suc k') (keys (drop (rank k (key r ∷ keys rs)) (r ∷ rs))))
    go (gt g) rest ih = rw (lt-ltb (key r) k g) ih
    go (le g) rest ih = rw (le-ltb (key r) k g) (elim (order k' (key r)) [
      | less h ↦ rises_cons (suc k') (key r) (keys rs) h rest
      | same e ↦ absurd (own (held (key r) rs) (rw (eq-eqb (key r) (key r) refl) at (free (key r) g (omega arith))))
      | more h ↦ absurd (own (held (key r) rs) (rw (eq-eqb (key r) (key r) refl) at (free (key r) g (omega arith))))
    ])
