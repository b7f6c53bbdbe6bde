-- The records that a test on keys keeps: a desk's, or all but a desk's. What happens under other keys does not change them. Assumes nothing.
use mathlib.Core.Path.{◌≡◌, refl, sym, ap, subst, ◌∙◌}
use mathlib.Core.Bool.{Bool, true, false, cond, not, ◌&&◌, ◌||◌, and-false}
use mathlib.Core.List.{List, [], ◌∷◌}
use Prim.Native.Nat.{ℕ, suc, ◌+◌, ◌≤◌, ◌<◌}
use native.Mathlib.Omega.{arith}
use borrow.Author.Tests.{eqb-true}
use lib.Dec.{T, eqb}
use lib.ListN.{length}
use Rattle.numbers.specs.Every.{all}
use Rattle.numbers.proofs.Tests.{both, left, right, of_true}
use Rattle.numbers.proofs.Orders.{less, same, more, order}
use Rattle.records.specs.Records.{key, keys, rises, blank, lookup}
use Rattle.records.specs.Held.{held, keep, Wide}
use Rattle.records.specs.Bumped.{bumped_at}
use Rattle.records.proofs.Rising.{rises_first, rises_rest, rises_cons, rises_weaken}
use Rattle.records.proofs.Finding.{lookup_absent}
use Rattle.records.proofs.Bumping.{bumped_later, bumped_here, bumped_before, bumped_front, key_raised}

-- ---- any test

module _ (p : ℕ → Bool) where
  pub rises_keep : (lo : ℕ) (rs : List (List ℕ)) → T (rises lo (keys rs)) → T (rises lo (keys (keep p rs)))
  unfolding keep
  rises_keep lo [] up = up
  rises_keep lo (r ∷ rs) up = go (p (key r)) (rises_first lo (key r) (keys rs) up) (rises_keep (suc (key r)) rs (rises_rest lo (key r) (keys rs) up))
    where
      go : (t : Bool) → lo ≤ key r → T (rises (suc (key r)) (keys (keep p rs))) → T (rises lo (keys (cond t (r ∷ keep p rs) (keep p rs))))
      go true h rest = rises_cons lo (key r) (keys (keep p rs)) h rest
      go false h rest = rises_weaken lo (suc (key r)) (keys (keep p rs)) (omega arith) rest

  pub wide_keep : (rs : List (List ℕ)) → Wide rs → Wide (keep p rs)
  unfolding keep
  wide_keep [] w = tt
  wide_keep (r ∷ rs) w = go (p (key r)) (wide_keep rs w.1)
    where
      go : (t : Bool) → Wide (keep p rs) → Wide (cond t (r ∷ keep p rs) (keep p rs))
      go true h = (w.0, h)
      go false h = h

  -- each of them passes it, and what all passed
  pub keep_all : (g : List ℕ → Bool) (rs : List (List ℕ)) → T (all g rs) → T (all (λ r. g r && p (key r)) (keep p rs))
  unfolding keep all
  keep_all g [] t = tt
  keep_all g (r ∷ rs) t = go (p (key r)) refl (keep_all g rs (right (g r) (all g rs) t))
    where
      go : (b : Bool) → p (key r) ≡ b → T (all (λ r. g r && p (key r)) (keep p rs)) → T (all (λ r. g r && p (key r)) (cond b (r ∷ keep p rs) (keep p rs)))
      go true e h = both (g r && p (key r)) _ (both (g r) (p (key r)) (left (g r) (all g rs) t) (of_true (p (key r)) e)) h
      go false e h = h

  -- what is held of it: what the test keeps
  pub held_keep : (k : ℕ) (rs : List (List ℕ)) → held k (keep p rs) ≡ (p k && held k rs)
  unfolding keep held
  held_keep k [] = sym (and-false (p k))
  held_keep k (r ∷ rs) = go (p (key r)) refl (eqb (key r) k) refl (held_keep k rs)
    where
      go : (t : Bool) → p (key r) ≡ t → (u : Bool) → eqb (key r) k ≡ u → held k (keep p rs) ≡ (p k && held k rs)
          → held k (cond t (r ∷ keep p rs) (keep p rs)) ≡ (p k && (u || held k rs))
      go true f true e ih = rw (e, ← eqb-true (key r) k e, f)
      go true f false e ih = rw e ih
      go false f true e ih = let none : p k ≡ false = ap p (sym (eqb-true (key r) k e)) ∙ f in ih ∙ rw none
      go false f false e ih = ih

  -- what stands under a key that it keeps, and under one that it does not
  pub lookup_keep : (k : ℕ) (rs : List (List ℕ)) → p k ≡ true → lookup k (keep p rs) ≡ lookup k rs
  unfolding keep lookup
  lookup_keep k [] h = refl
  lookup_keep k (r ∷ rs) h = go (p (key r)) refl (eqb (key r) k) refl (lookup_keep k rs h)
    where
      go : (t : Bool) → p (key r) ≡ t → (u : Bool) → eqb (key r) k ≡ u → lookup k (keep p rs) ≡ lookup k rs
          → lookup k (cond t (r ∷ keep p rs) (keep p rs)) ≡ cond u r (lookup k rs)
      go true f u e ih = rw (e, ih)
      go false f true e ih = absurd (subst T (sym h ∙ ap p (sym (eqb-true (key r) k e)) ∙ f) tt)
      go false f false e ih = ih

  pub lookup_out : (k : ℕ) (rs : List (List ℕ)) → p k ≡ false → lookup k (keep p rs) ≡ blank k
  lookup_out k rs h = lookup_absent k (keep p rs) (held_keep k rs ∙ rw h)

  -- so it depends on what the test keeps alone
  pub lookup_local : (k : ℕ) (rs rs' : List (List ℕ)) → keep p rs ≡ keep p rs' → p k ≡ true → lookup k rs ≡ lookup k rs'
  lookup_local k rs rs' e h = sym (lookup_keep k rs h) ∙ ap (lookup k) e ∙ lookup_keep k rs' h

  pub held_local : (k : ℕ) (rs rs' : List (List ℕ)) → keep p rs ≡ keep p rs' → p k ≡ true → held k rs ≡ held k rs'
  held_local k rs rs' e h = sym (at rs) ∙ ap (held k) e ∙ at rs'
    where
      at : (l : List (List ℕ)) → held k (keep p l) ≡ held k l
      at l = held_keep k l ∙ rw h

  -- what it keeps and what it leaves make up all
  pub length_split : (rs : List (List ℕ)) → length (keep p rs) + length (keep (λ k. not (p k)) rs) ≡ length rs
  unfolding keep
  length_split [] = refl
  length_split (r ∷ rs) = go (p (key r)) (length_split rs)
    where
      go : (t : Bool) → length (keep p rs) + length (keep (λ k. not (p k)) rs) ≡ length rs
          → length (cond t (r ∷ keep p rs) (keep p rs)) + length (cond (not t) (r ∷ keep (λ k. not (p k)) rs) (keep (λ k. not (p k)) rs)) ≡ suc (length rs)
      go true h = omega arith
      go false h = omega arith

  -- ---- one more count: under a key that it does not keep ..
  pub keep_bumped_other : (k c : ℕ) (rs : List (List ℕ)) → 1 ≤ c → p k ≡ false → keep p (bumped_at k c rs) ≡ keep p rs
  unfolding keep bumped_at
  keep_bumped_other k c [] past h = rw (key_raised c past (blank k), h)
  keep_bumped_other k c (r ∷ rs) past h =
      elim (order (key r) k) [
        | less l ↦ rw (bumped_later k c r rs l, keep_bumped_other k c rs past h)
        | same e ↦ rw (bumped_here k c r rs e, key_raised c past r, e, h)
        | more l ↦ rw (bumped_before k c r rs l, key_raised c past (blank k), h)
      ]

  -- .. and under one that it keeps
  pub keep_bumped_own : (k c lo : ℕ) (rs : List (List ℕ)) → 1 ≤ c → T (rises lo (keys rs)) → p k ≡ true → keep p (bumped_at k c rs) ≡ bumped_at k c (keep p rs)
  unfolding keep bumped_at
  keep_bumped_own k c lo [] past up h = rw (key_raised c past (blank k), h)
  keep_bumped_own k c lo (r ∷ rs) past up h =
      let rest = rises_rest lo (key r) (keys rs) up in
      elim (order (key r) k) [
        | less l ↦ rw (bumped_later k c r rs l) (go l (p (key r)) (keep_bumped_own k c (suc (key r)) rs past rest h))
        | same e ↦ rw (bumped_here k c r rs e, key_raised c past r, ap p e ∙ h) (sym (bumped_here k c r (keep p rs) e))
        | more l ↦
            rw (bumped_before k c r rs l, key_raised c past (blank k), h)
            (sym (bumped_front k c (keep p (r ∷ rs)) (rises_keep (suc k) (r ∷ rs) (rises_cons (suc k) (key r) (keys rs) l rest))))
      ]
    where
      go : key r < k → (t : Bool) → keep p (bumped_at k c rs) ≡ bumped_at k c (keep p rs)
          → cond {A = List (List ℕ)} t (r ∷ keep p (bumped_at k c rs)) (keep p (bumped_at k c rs)) ≡ bumped_at k c (cond t (r ∷ keep p rs) (keep p rs))
      go l true ih = rw (bumped_later k c r (keep p rs) l, ih)
      go l false ih = ih

-- ---- two tests in turn: the stricter one decides, and tests that no key passes both leave nothing
pub keep_keep : (p q : ℕ → Bool) (rs : List (List ℕ)) → ((k : ℕ) → T (p k) → T (q k)) → keep p (keep q rs) ≡ keep p rs
unfolding keep
keep_keep p q [] h = refl
keep_keep p q (r ∷ rs) h = go (p (key r)) refl (q (key r)) refl (keep_keep p q rs h)
  where
    go : (s : Bool) → p (key r) ≡ s → (t : Bool) → q (key r) ≡ t → keep p (keep q rs) ≡ keep p rs
        → keep p (cond t (r ∷ keep q rs) (keep q rs)) ≡ cond s (r ∷ keep p rs) (keep p rs)
    go s f true g ih = rw (f, ih)
    go true f false g ih = absurd (subst T g (h (key r) (subst T (sym f) tt)))
    go false f false g ih = ih

pub keep_none : (p q : ℕ → Bool) (rs : List (List ℕ)) → ((k : ℕ) → T (q k) → p k ≡ false) → keep p (keep q rs) ≡ []
unfolding keep
keep_none p q [] h = refl
keep_none p q (r ∷ rs) h = go (q (key r)) refl (keep_none p q rs h)
  where
    go : (t : Bool) → q (key r) ≡ t → keep p (keep q rs) ≡ [] → keep p (cond t (r ∷ keep q rs) (keep q rs)) ≡ []
    go true g ih = rw (h (key r) (subst T (sym g) tt)) ih
    go false g ih = ih
