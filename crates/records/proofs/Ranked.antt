-- What stands at the rank of a key, also as the code tests it. Assumes nothing.
use mathlib.Core.Path.{◌≡◌, refl, sym, ap, ◌∙◌}
use mathlib.Core.Bool.{Bool, true, false, cond}
use mathlib.Core.List.{List, [], ◌∷◌}
use Prim.Native.Nat.{ℕ, zero, suc, ◌*◌, ◌≤◌, ◌<◌, suc-le-suc}
use native.Mathlib.Omega.{arith}
use borrow.Author.Tests.{ltb-true, ltb-false, eqb-true, eqb-false, ne_eqb}
use lib.Dec.{T, ltb, eqb}
use lib.ListN.{length, get_or}
use Rattle.numbers.proofs.Tests.{is_true}
use Rattle.records.specs.Records.{width, records, key, keys, rises, lookup}
use Rattle.records.specs.Held.{rank, held, Rising}
use Rattle.records.proofs.Parts.{length_parts}
use Rattle.records.proofs.Rising.{rises_rest, key_at}
use Rattle.records.proofs.Finding.{held_none, lookup_place, place_held}

pub rank_zero : (k x : ℕ) (xs : List ℕ) → rank k (x ∷ xs) ≡ 0 → k ≤ x
unfolding rank
rank_zero k x xs e = go (ltb x k) refl e
  where
    go : (t : Bool) → ltb x k ≡ t → cond t (suc (rank k xs)) zero ≡ 0 → k ≤ x
    go true f q = absurd (omega arith)
    go false f q = ltb-false x k f

pub rank_suc : (k x : ℕ) (xs : List ℕ) (p : ℕ) → rank k (x ∷ xs) ≡ suc p → (x < k) × (rank k xs ≡ p)
unfolding rank
rank_suc k x xs p e = go (ltb x k) refl e
  where
    go : (t : Bool) → ltb x k ≡ t → cond t (suc (rank k xs)) zero ≡ suc p → (x < k) × (rank k xs ≡ p)
    go true f q = (ltb-true x k f, omega arith)
    go false f q = absurd (omega arith)

-- the place at the rank of a key has another key, or there is no such place
abbrev pub Missed : ℕ → ℕ → List (List ℕ) → Type 0
Missed k p rs = p < length rs → key (get_or rs p []) ≡ k → ⊥

pub held_missed : (k lo : ℕ) (rs : List (List ℕ)) (p : ℕ) → T (rises lo (keys rs)) → rank k (keys rs) ≡ p → Missed k p rs → held k rs ≡ false
unfolding held
held_missed k lo [] p up e m = refl
held_missed k lo (r ∷ rs) zero up e m =
    let other = m (omega arith) in
    let least = rank_zero k (key r) (keys rs) e in
    rw (ne_eqb (key r) k other) (held_none k (suc (key r)) rs (rises_rest lo (key r) (keys rs) up) (omega arith))
held_missed k lo (r ∷ rs) (suc p) up e m =
    let at = rank_suc k (key r) (keys rs) p e in
    rw (ne_eqb (key r) k (λ q. omega arith)) (held_missed k (suc (key r)) rs p (rises_rest lo (key r) (keys rs) up) at.1 (λ h. m (suc-le-suc h)))

-- ---- the same of the first n records, as the code tests it

module _ (k n p : ℕ) (l : List ℕ) where
  in_records : p < n → p < length (records n l)
  in_records h = rw (length_parts width n l) h

  pub held_found : p < n → get_or l (width * p) 0 ≡ k → held k (records n l) ≡ true
  held_found h e = is_true (held k (records n l)) (place_held k p (records n l) (in_records h) (key_at n p l h ∙ e))

  pub lookup_found : Rising (records n l) → p < n → get_or l (width * p) 0 ≡ k → lookup k (records n l) ≡ get_or (records n l) p []
  lookup_found up h e =
      ap (λ (x : ℕ). lookup x (records n l)) (sym (key_at n p l h ∙ e)) ∙ lookup_place 0 p (records n l) up (in_records h)

  pub missed : (p < n → get_or l (width * p) 0 ≡ k → ⊥) → Missed k p (records n l)
  missed m h e = let inside : p < n = rw (length_parts width n l) at h in m inside (sym (key_at n p l inside) ∙ e)

  pub held_lost : Rising (records n l) → p ≡ rank k (keys (records n l)) → (p < n → get_or l (width * p) 0 ≡ k → ⊥) → held k (records n l) ≡ false
  held_lost up at m = held_missed k 0 (records n l) p up (sym at) (missed m)

  -- the test of the key at its rank
  pub held_tested : Rising (records n l) → p ≡ rank k (keys (records n l)) → p < n → eqb (get_or l (width * p) 0) k ≡ held k (records n l)
  held_tested up at h = go (eqb (get_or l (width * p) 0) k) refl
    where
      go : (t : Bool) → eqb (get_or l (width * p) 0) k ≡ t → t ≡ held k (records n l)
      go true e = sym (held_found h (eqb-true (get_or l (width * p) 0) k e))
      go false e = sym (held_lost up at (λ _. eqb-false (get_or l (width * p) 0) k e))
