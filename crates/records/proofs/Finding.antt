-- What is held and what stands under a key, by the places of records whose keys rise. Assumes nothing.
use mathlib.Core.Path.{◌≡◌, refl, sym, subst, ◌∙◌}
use mathlib.Core.Bool.{Bool, true, false, cond, ◌||◌}
use mathlib.Core.List.{List, [], ◌∷◌}
use Prim.Native.Nat.{ℕ, zero, suc, ◌<◌, suc-le-suc}
use native.Mathlib.Nat.{not-suc-le-zero, le_of_suc-le-suc}
use native.Mathlib.Omega.{arith}
use borrow.Author.Tests.{eqb-true, eq-eqb, ne_eqb}
use lib.Dec.{T, eqb, eqb→eq}
use lib.ListN.{length, get_or}
use Rattle.numbers.proofs.Tests.{choose, or_left, or_right}
use Rattle.numbers.proofs.Orders.{eq→eqb}
use Rattle.records.specs.Records.{key, keys, rises, blank, lookup}
use Rattle.records.specs.Held.{held}
use Rattle.records.proofs.Rising.{rises_first, rises_rest, key_bound}

-- ---- what no record has

-- no record has a key below the bound
pub held_none : (k lo : ℕ) (rs : List (List ℕ)) → T (rises lo (keys rs)) → k < lo → held k rs ≡ false
unfolding held
held_none k lo [] up h = refl
held_none k lo (r ∷ rs) up h =
    let first = rises_first lo (key r) (keys rs) up in
    rw (ne_eqb (key r) k (λ e. omega arith)) (held_none k (suc (key r)) rs (rises_rest lo (key r) (keys rs) up) (omega arith))

-- under a key that no record has stands a blank one
pub lookup_absent : (k : ℕ) (rs : List (List ℕ)) → held k rs ≡ false → lookup k rs ≡ blank k
unfolding held lookup
lookup_absent k [] h = refl
lookup_absent k (r ∷ rs) h = go (eqb (key r) k) h (lookup_absent k rs)
  where
    go : (t : Bool) → (t || held k rs) ≡ false → (held k rs ≡ false → lookup k rs ≡ blank k) → cond t r (lookup k rs) ≡ blank k
    go true e ih = absurd (subst T e tt)
    go false e ih = ih e

-- what holds of all records, and of a blank one, holds of what stands under a key
pub lookup_each : (P : List ℕ → Type 0) (k : ℕ) (rs : List (List ℕ)) → P (blank k) → ((p : ℕ) → p < length rs → P (get_or rs p [])) → P (lookup k rs)
unfolding lookup
lookup_each P k [] b h = b
lookup_each P k (r ∷ rs) b h =
    choose P (eqb (key r) k) r (lookup k rs) (h 0 (omega arith)) (lookup_each P k rs b (λ p l. h (suc p) (omega arith)))

-- what holds of each record with a key that is held holds of what stands under it
pub lookup_held : (P : List ℕ → Type 0) (k : ℕ) (rs : List (List ℕ)) → ((p : ℕ) → p < length rs → key (get_or rs p []) ≡ k → P (get_or rs p []))
    → T (held k rs) → P (lookup k rs)
unfolding held lookup
lookup_held P k [] each h = absurd h
lookup_held P k (r ∷ rs) each h = go (eqb (key r) k) refl h (lookup_held P k rs (λ p l. each (suc p) (omega arith)))
  where
    go : (t : Bool) → eqb (key r) k ≡ t → T (t || held k rs) → (T (held k rs) → P (lookup k rs)) → P (cond t r (lookup k rs))
    go true e u ih = each 0 (omega arith) (eqb-true (key r) k e)
    go false e u ih = ih u

pub key_lookup : (k : ℕ) (rs : List (List ℕ)) → T (held k rs) → key (lookup k rs) ≡ k
key_lookup k rs h = lookup_held (λ r. key r ≡ k) k rs (λ p l e. e) h

-- ---- the places of what is held

-- a place at which a record has the key
pub record Place (k : ℕ) (rs : List (List ℕ)) : Type 0 where
  pub place : ℕ
  pub inside : place < length rs
  pub has : key (get_or rs place []) ≡ k

pub held_place : (k : ℕ) (rs : List (List ℕ)) → T (held k rs) → Place k rs
unfolding held
held_place k [] h = absurd h
held_place k (r ∷ rs) h = go (eqb (key r) k) refl h (held_place k rs)
  where
    go : (t : Bool) → eqb (key r) k ≡ t → T (t || held k rs) → (T (held k rs) → Place k rs) → Place k (r ∷ rs)
    go true e u f = record { place = 0; inside = omega arith; has = eqb→eq (key r) k (subst T (sym e) tt) }
    go false e u f =
        let there = f u in
        record { place = suc there.place; inside = suc-le-suc there.inside; has = there.has }

pub place_held : (k p : ℕ) (rs : List (List ℕ)) → p < length rs → key (get_or rs p []) ≡ k → T (held k rs)
unfolding held
place_held k p [] h e = absurd (not-suc-le-zero h)
place_held k zero (r ∷ rs) h e = or_left (eqb (key r) k) (held k rs) (eq→eqb (key r) k e)
place_held k (suc p) (r ∷ rs) h e = or_right (eqb (key r) k) (held k rs) (place_held k p rs (le_of_suc-le-suc h) e)

-- the first record, and those after it
pub lookup_head : (r : List ℕ) (rs : List (List ℕ)) → lookup (key r) (r ∷ rs) ≡ r
unfolding lookup
lookup_head r rs = rw (eq-eqb (key r) (key r) refl)

pub lookup_tail : (k : ℕ) (r : List ℕ) (rs : List (List ℕ)) → key r < k → lookup k (r ∷ rs) ≡ lookup k rs
unfolding lookup
lookup_tail k r rs h = rw (ne_eqb (key r) k (λ e. omega arith))

-- under the key of a place stands the record there
pub lookup_place : (lo p : ℕ) (rs : List (List ℕ)) → T (rises lo (keys rs)) → p < length rs → lookup (key (get_or rs p [])) rs ≡ get_or rs p []
lookup_place lo p [] up h = absurd (not-suc-le-zero h)
lookup_place lo zero (r ∷ rs) up h = lookup_head r rs
lookup_place lo (suc p) (r ∷ rs) up h =
    let rest = rises_rest lo (key r) (keys rs) up in
    lookup_tail (key (get_or rs p [])) r rs (key_bound (suc (key r)) rs p rest (le_of_suc-le-suc h)) ∙ lookup_place (suc (key r)) p rs rest (le_of_suc-le-suc h)
