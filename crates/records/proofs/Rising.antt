-- Laws of rising keys and of the place that a key has among them. Assumes nothing.
use mathlib.Core.Path.{◌≡◌, refl, ap, ◌∙◌}
use mathlib.Core.Bool.{Bool, true, false, cond}
use mathlib.Core.List.{List, [], ◌∷◌}
use Prim.Native.Nat.{ℕ, zero, suc, ◌*◌, ◌≤◌, ◌<◌, suc-le-suc}
use native.Mathlib.Nat.{not-suc-le-zero, le_of_suc-le-suc, add-zero}
use native.Mathlib.Omega.{arith}
use borrow.Author.Tests.{ltb-true, lt-ltb, le-ltb}
use lib.Dec.{T, leb, ltb, leb→le, le→leb}
use lib.ListN.{length, get_or, length-map, get_or-map}
use Rattle.numbers.proofs.Tests.{both, left, right}
use Rattle.records.specs.Records.{width, records, key, keys, rises}
use Rattle.records.specs.Held.{rank, Rising}
use Rattle.records.proofs.Parts.{cell_at, length_parts}

-- ---- rising keys

module _ (lo k : ℕ) (ks : List ℕ) where
  pub rises_first : T (rises lo (k ∷ ks)) → lo ≤ k
  unfolding rises
  rises_first up = leb→le lo k (left (leb lo k) (rises (suc k) ks) up)

  pub rises_rest : T (rises lo (k ∷ ks)) → T (rises (suc k) ks)
  unfolding rises
  rises_rest up = right (leb lo k) (rises (suc k) ks) up

  pub rises_cons : lo ≤ k → T (rises (suc k) ks) → T (rises lo (k ∷ ks))
  unfolding rises
  rises_cons h up = both (leb lo k) (rises (suc k) ks) (le→leb lo k h) up

-- a smaller bound is a weaker one
pub rises_weaken : (lo lo' : ℕ) (ks : List ℕ) → lo ≤ lo' → T (rises lo' ks) → T (rises lo ks)
unfolding rises
rises_weaken lo lo' [] h up = tt
rises_weaken lo lo' (k ∷ ks) h up =
    let first = rises_first lo' k ks up in
    rises_cons lo k ks (omega arith) (rises_rest lo' k ks up)

-- no key is below the bound
pub rises_bound : (lo : ℕ) (ks : List ℕ) (i : ℕ) → T (rises lo ks) → i < length ks → lo ≤ get_or ks i 0
rises_bound lo [] i up h = absurd (not-suc-le-zero h)
rises_bound lo (k ∷ ks) zero up h = rises_first lo k ks up
rises_bound lo (k ∷ ks) (suc i) up h =
    let first = rises_first lo k ks up in
    let later = rises_bound (suc k) ks i (rises_rest lo k ks up) (le_of_suc-le-suc h) in
    omega arith

-- the same of records by their places; and of two records the earlier has the smaller key
pub key_bound : (lo : ℕ) (rs : List (List ℕ)) (i : ℕ) → T (rises lo (keys rs)) → i < length rs → lo ≤ key (get_or rs i [])
key_bound lo rs i up h = rw (← get_or-map key rs i []) (rises_bound lo (keys rs) i up (rw (length-map rs key) h))

pub rises_apart : (lo : ℕ) (rs : List (List ℕ)) (i j : ℕ) → T (rises lo (keys rs)) → i < j → j < length rs → key (get_or rs i []) < key (get_or rs j [])
rises_apart lo [] i j up h g = absurd (not-suc-le-zero g)
rises_apart lo (r ∷ rs) i zero up h g = absurd (not-suc-le-zero h)
rises_apart lo (r ∷ rs) zero (suc j) up h g = key_bound (suc (key r)) rs j (rises_rest lo (key r) (keys rs) up) (le_of_suc-le-suc g)
rises_apart lo (r ∷ rs) (suc i) (suc j) up h g = rises_apart (suc (key r)) rs i j (rises_rest lo (key r) (keys rs) up) (le_of_suc-le-suc h) (le_of_suc-le-suc g)

-- .. and the other way round
pub apart_rises : (lo : ℕ) (rs : List (List ℕ)) → ((i : ℕ) → i < length rs → lo ≤ key (get_or rs i []))
    → ((i j : ℕ) → i < j → j < length rs → key (get_or rs i []) < key (get_or rs j [])) → T (rises lo (keys rs))
unfolding rises
apart_rises lo [] low apart = tt
apart_rises lo (r ∷ rs) low apart =
    rises_cons lo (key r) (keys rs) (low 0 (omega arith))
    (apart_rises (suc (key r)) rs (λ i h. apart 0 (suc i) (omega arith) (omega arith)) (λ i j h g. apart (suc i) (suc j) (omega arith) (omega arith)))

-- ---- the place of a key

cond_le : (t : Bool) (r n : ℕ) → suc r ≤ n → cond t (suc r) zero ≤ n
cond_le true r n h = h
cond_le false r n h = omega arith

pub rank_length : (k : ℕ) (ks : List ℕ) → rank k ks ≤ length ks
unfolding rank
rank_length k [] = omega arith
rank_length k (x ∷ xs) = cond_le (ltb x k) (rank k xs) (suc (length xs)) (suc-le-suc (rank_length k xs))

-- a key that is not below k ends the rank; a key below k, where keys rise, is within it
pub rank_le : (k : ℕ) (ks : List ℕ) (i : ℕ) → i < length ks → k ≤ get_or ks i 0 → rank k ks ≤ i
unfolding rank
rank_le k [] i h g = absurd (not-suc-le-zero h)
rank_le k (x ∷ xs) zero h g = rw (le-ltb x k g) (omega arith)
rank_le k (x ∷ xs) (suc i) h g = cond_le (ltb x k) (rank k xs) (suc i) (suc-le-suc (rank_le k xs i (le_of_suc-le-suc h) g))

pub rank_gt : (lo k : ℕ) (ks : List ℕ) (i : ℕ) → T (rises lo ks) → i < length ks → get_or ks i 0 < k → i < rank k ks
unfolding rank
rank_gt lo k [] i up h g = absurd (not-suc-le-zero h)
rank_gt lo k (x ∷ xs) zero up h g = rw (lt-ltb x k g) (omega arith)
rank_gt lo k (x ∷ xs) (suc i) up h g =
    let rest = rises_rest lo x xs up in
    let below = rises_bound (suc x) xs i rest (le_of_suc-le-suc h) in
    let tail = rank_gt (suc x) k xs i rest (le_of_suc-le-suc h) g in
    rw (lt-ltb x k (omega arith)) (omega arith)

-- a larger key stands no earlier
pub rank_mono : (k k' : ℕ) (ks : List ℕ) → k ≤ k' → rank k ks ≤ rank k' ks
unfolding rank
rank_mono k k' [] h = omega arith
rank_mono k k' (x ∷ xs) h = go (ltb x k) refl (rank_mono k k' xs h)
  where
    go : (t : Bool) → ltb x k ≡ t → rank k xs ≤ rank k' xs → rank k (x ∷ xs) ≤ rank k' (x ∷ xs)
    go true e ih =
        let low = ltb-true x k e in
        rw (e, lt-ltb x k' (omega arith)) (suc-le-suc ih)
    go false e ih = rw e (omega arith)

-- the place of an equal key
pub rank_same : (k k' : ℕ) (ks : List ℕ) (p : ℕ) → p ≡ rank k ks → k ≡ k' → p ≡ rank k' ks
rank_same k k' ks p at e = at ∙ ap (λ (x : ℕ). rank x ks) e

-- a key that is not above the bound stands before all
pub rank_none : (k lo : ℕ) (ks : List ℕ) → k ≤ lo → T (rises lo ks) → rank k ks ≡ 0
unfolding rank
rank_none k lo [] h up = refl
rank_none k lo (x ∷ xs) h up = let first = rises_first lo x xs up in rw (le-ltb x k (omega arith))

-- ---- the keys of the first n records, as the code reads them

pub length_keys : (n : ℕ) (l : List ℕ) → length (keys (records n l)) ≡ n
length_keys n l = length-map (records n l) key ∙ length_parts width n l

pub rank_within : (n : ℕ) (l : List ℕ) (k : ℕ) → rank k (keys (records n l)) ≤ n
rank_within n l k = rw (length_keys n l) at (rank_length k (keys (records n l)))

pub key_at : (n i : ℕ) (l : List ℕ) → i < n → key (get_or (records n l) i []) ≡ get_or l (width * i) 0
key_at n i l h = cell_at width n i 0 l h (omega arith) ∙ ap (λ (k : ℕ). get_or l k 0) (add-zero (width * i))

-- a turn of the search by halving: what the key in the middle says of the place
module _ (n middle k : ℕ) (l : List ℕ) (h : middle < n) where
  inside : middle < length (keys (records n l))
  inside = rw (length_keys n l) h

  key_there : get_or (keys (records n l)) middle 0 ≡ get_or l (width * middle) 0
  key_there = get_or-map key (records n l) middle [] ∙ key_at n middle l h

  pub above_middle : Rising (records n l) → get_or l (width * middle) 0 < k → middle < rank k (keys (records n l))
  above_middle up g = rank_gt 0 k (keys (records n l)) middle up inside (rw key_there g)

  pub up_to_middle : k ≤ get_or l (width * middle) 0 → rank k (keys (records n l)) ≤ middle
  up_to_middle g = rank_le k (keys (records n l)) middle inside (rw key_there g)
