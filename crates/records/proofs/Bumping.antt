-- What one more count under a key does to records whose keys rise: to what stands under each key, to the order, to what is held and to their number.
-- Assumes nothing.
use mathlib.Core.Path.{◌≡◌, refl, sym, ap, subst, ◌∙◌}
use mathlib.Core.Logic.{◌≢◌}
use mathlib.Core.Bool.{Bool, true, false, cond, not, ◌||◌, or_self_left}
use mathlib.Core.List.{List, [], ◌∷◌}
use Prim.Native.Nat.{ℕ, suc, ◌+◌, ◌≤◌, ◌<◌}
use native.Mathlib.Omega.{arith}
use borrow.Author.Tests.{lt-ltb, le-ltb, eq-eqb, ne_eqb, eqb-true, eqb-false}
use lib.Dec.{T, eqb}
use lib.ListN.{length, get_or, length-set}
use lib.Seq.{get_or-set_other}
use Rattle.numbers.specs.Sum.{one}
use Rattle.numbers.proofs.Tests.{or_swap}
use Rattle.numbers.proofs.Orders.{less, same, more, order}
use Rattle.records.specs.Records.{key, keys, rises, blank, lookup}
use Rattle.records.specs.Held.{held, Rising, Wide}
use Rattle.records.specs.Bumped.{raised, bumped_at}
use Rattle.records.proofs.Rising.{rises_first, rises_rest, rises_cons}
use Rattle.records.proofs.Finding.{held_none, lookup_absent}

-- ---- the three cases

module _ (k c : ℕ) (r : List ℕ) (rs : List (List ℕ)) where
  pub bumped_later : key r < k → bumped_at k c (r ∷ rs) ≡ r ∷ bumped_at k c rs
  unfolding bumped_at
  bumped_later h = rw (lt-ltb (key r) k h)

  pub bumped_here : key r ≡ k → bumped_at k c (r ∷ rs) ≡ raised c r ∷ rs
  unfolding bumped_at
  bumped_here e = rw (le-ltb (key r) k (omega arith), eq-eqb (key r) k e)

  pub bumped_before : k < key r → bumped_at k c (r ∷ rs) ≡ raised c (blank k) ∷ r ∷ rs
  unfolding bumped_at
  bumped_before h = rw (le-ltb (key r) k (omega arith), ne_eqb (key r) k (λ e. omega arith))

-- before all records
pub bumped_front : (k c : ℕ) (rs : List (List ℕ)) → T (rises (suc k) (keys rs)) → bumped_at k c rs ≡ raised c (blank k) ∷ rs
unfolding bumped_at
bumped_front k c [] up = refl
bumped_front k c (r ∷ rs) up = bumped_before k c r rs (rises_first (suc k) (key r) (keys rs) up)

-- every record still has all its numbers
pub wide_bumped : (k c : ℕ) (rs : List (List ℕ)) → Wide rs → Wide (bumped_at k c rs)
unfolding bumped_at
wide_bumped k c [] w = (length-set (blank k) c _, tt)
wide_bumped k c (r ∷ rs) w =
    elim (order (key r) k) [
      | less h ↦ rw (bumped_later k c r rs h) (w.0, wide_bumped k c rs w.1)
      | same e ↦ rw (bumped_here k c r rs e) (length-set r c _ ∙ w.0, w.1)
      | more h ↦ rw (bumped_before k c r rs h) (length-set (blank k) c _, w)
    ]

-- the number of records grows by one where no record had the key
pub length_bumped : (k c lo : ℕ) (rs : List (List ℕ)) → T (rises lo (keys rs)) → length (bumped_at k c rs) ≡ length rs + one (not (held k rs))
unfolding held bumped_at
length_bumped k c lo [] up = refl
length_bumped k c lo (r ∷ rs) up =
    elim (order (key r) k) [
      | less h ↦
          let ih = length_bumped k c (suc (key r)) rs (rises_rest lo (key r) (keys rs) up) in
          rw (bumped_later k c r rs h, ne_eqb (key r) k (λ e. omega arith)) (omega arith)
      | same e ↦ rw (bumped_here k c r rs e, eq-eqb (key r) k e) (omega arith)
      | more h ↦
          let none = held_none k (suc (key r)) rs (rises_rest lo (key r) (keys rs) up) (omega arith) in
          rw (bumped_before k c r rs h, ne_eqb (key r) k (λ e. omega arith), none) (omega arith)
    ]

-- ---- a cell past the key

module _ (c : ℕ) (past : 1 ≤ c) where
  pub key_raised : (r : List ℕ) → key (raised c r) ≡ key r
  key_raised r = get_or-set_other r c 0 (get_or r c 0 + 1) 0 (λ e. omega arith)

  -- the keys still rise
  pub rises_bumped : (k lo : ℕ) (rs : List (List ℕ)) → lo ≤ k → T (rises lo (keys rs)) → T (rises lo (keys (bumped_at k c rs)))
  unfolding bumped_at rises
  rises_bumped k lo [] h up = rw (key_raised (blank k)) (rises_cons lo k [] h up)
  rises_bumped k lo (r ∷ rs) h up =
      let rest = rises_rest lo (key r) (keys rs) up in
      let first = rises_first lo (key r) (keys rs) up in
      elim (order (key r) k) [
        | less l ↦ rw (bumped_later k c r rs l) (rises_cons lo (key r) (keys (bumped_at k c rs)) first (rises_bumped k (suc (key r)) rs l rest))
        | same e ↦ rw (bumped_here k c r rs e, key_raised r) up
        | more l ↦ rw (bumped_before k c r rs l, key_raised (blank k)) (rises_cons lo k (keys (r ∷ rs)) h (rises_cons (suc k) (key r) (keys rs) l rest))
      ]

  -- what stands under the key has one more ..
  lookup_own : (k lo : ℕ) (rs : List (List ℕ)) → T (rises lo (keys rs)) → lookup k (bumped_at k c rs) ≡ raised c (lookup k rs)
  unfolding lookup bumped_at
  lookup_own k lo [] up = rw (eq-eqb (key (raised c (blank k))) k (key_raised (blank k)))
  lookup_own k lo (r ∷ rs) up =
      let rest = rises_rest lo (key r) (keys rs) up in
      elim (order (key r) k) [
        | less h ↦ rw (bumped_later k c r rs h, ne_eqb (key r) k (λ e. omega arith)) (lookup_own k (suc (key r)) rs rest)
        | same e ↦ rw (bumped_here k c r rs e, eq-eqb (key (raised c r)) k (key_raised r ∙ e), eq-eqb (key r) k e)
        | more h ↦
            let none = lookup_absent k rs (held_none k (suc (key r)) rs rest (omega arith)) in
            rw (bumped_before k c r rs h, eq-eqb (key (raised c (blank k))) k (key_raised (blank k)), ne_eqb (key r) k (λ e. omega arith), none)
      ]

  -- .. and nothing else changes
  lookup_other : (k k' : ℕ) (rs : List (List ℕ)) → k ≢ k' → lookup k' (bumped_at k c rs) ≡ lookup k' rs
  unfolding lookup bumped_at
  lookup_other k k' [] d = rw (ne_eqb (key (raised c (blank k))) k' (λ e. d (sym (key_raised (blank k)) ∙ e)))
  lookup_other k k' (r ∷ rs) d =
      elim (order (key r) k) [
        | less h ↦ rw (bumped_later k c r rs h) (ap (cond (eqb (key r) k') r) (lookup_other k k' rs d))
        | same e ↦
            rw (
              bumped_here k c r rs e,
              ne_eqb (key (raised c r)) k' (λ f. d (sym (key_raised r ∙ e) ∙ f)),
              ne_eqb (key r) k' (λ f. d (sym e ∙ f)),
            )
        | more h ↦ rw (bumped_before k c r rs h, ne_eqb (key (raised c (blank k))) k' (λ e. d (sym (key_raised (blank k)) ∙ e)))
      ]

  -- THEOREM. What stands under any key after one more count under k
  pub lookup_bumped : (k k' : ℕ) (rs : List (List ℕ)) → Rising rs
      → lookup k' (bumped_at k c rs) ≡ cond (eqb k k') (raised c (lookup k' rs)) (lookup k' rs)
  lookup_bumped k k' rs up = go (eqb k k') refl
    where
      go : (t : Bool) → eqb k k' ≡ t → lookup k' (bumped_at k c rs) ≡ cond t (raised c (lookup k' rs)) (lookup k' rs)
      go true e = rw (← eqb-true k k' e) (lookup_own k 0 rs up)
      go false e = lookup_other k k' rs (eqb-false k k' e)

  -- what is held: what was, and k
  pub held_bumped : (k k' : ℕ) (rs : List (List ℕ)) → held k' (bumped_at k c rs) ≡ (eqb k k' || held k' rs)
  unfolding held bumped_at
  held_bumped k k' [] = rw (key_raised (blank k))
  held_bumped k k' (r ∷ rs) =
      elim (order (key r) k) [
        | less h ↦ rw (bumped_later k c r rs h, held_bumped k k' rs) (or_swap (eqb (key r) k') (eqb k k') (held k' rs))
        | same e ↦ rw (bumped_here k c r rs e, key_raised r, e) (sym (or_self_left (eqb k k') (held k' rs)))
        | more h ↦ rw (bumped_before k c r rs h, key_raised (blank k))
      ]

  -- where k was held, the keys are as before
  pub keys_bumped : (k lo : ℕ) (rs : List (List ℕ)) → T (rises lo (keys rs)) → held k rs ≡ true → keys (bumped_at k c rs) ≡ keys rs
  unfolding held
  keys_bumped k lo [] up h = absurd (subst T (sym h) tt)
  keys_bumped k lo (r ∷ rs) up h =
      let rest = rises_rest lo (key r) (keys rs) up in
      elim (order (key r) k) [
        | less l ↦ rw (bumped_later k c r rs l, keys_bumped k (suc (key r)) rs rest (rw (ne_eqb (key r) k (λ e. omega arith)) at h))
        | same e ↦ rw (bumped_here k c r rs e, key_raised r)
        | more l ↦
            let none = held_none k (suc (key r)) rs rest (omega arith) in
            absurd (subst T (sym (rw (ne_eqb (key r) k (λ e. omega arith), none) at h)) tt)
      ]
