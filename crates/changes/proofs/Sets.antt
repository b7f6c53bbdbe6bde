-- Laws of a run of stores, and of six numbers in a row, number by number. Assumes nothing.
use mathlib.Core.Path.{◌≡◌, refl, sym, ◌∙◌}
use mathlib.Core.List.{List, [], ◌∷◌}
use Prim.Native.Nat.{ℕ, zero, suc, ◌+◌, ◌≤◌, ◌<◌}
use native.Mathlib.Nat.{not-suc-le-zero}
use native.Mathlib.Omega.{arith}
use lib.ListN.{length, take, drop, get_or, set, length-set, length-drop}
use lib.Seq.{sets, get_or-set_same, get_or-set_other, drop-set-lt, ext_get_or, get_or-take, get_or-drop, length-take-le}
use Rattle.numbers.specs.Limits.{deepest}

pub sets_before : (l : List ℕ) (i : ℕ) (vs : List ℕ) (k : ℕ) → k < i → get_or (sets l i vs) k 0 ≡ get_or l k 0
sets_before l i [] k h = refl
sets_before l i (v ∷ vs) k h = sets_before (set l i v) (suc i) vs k (omega arith) ∙ get_or-set_other l i k v 0 (λ e. omega arith)

pub sets_past : (l : List ℕ) (i : ℕ) (vs : List ℕ) (k : ℕ) → i + length vs ≤ k → get_or (sets l i vs) k 0 ≡ get_or l k 0
sets_past l i [] k h = refl
sets_past l i (v ∷ vs) k h = sets_past (set l i v) (suc i) vs k (omega arith) ∙ get_or-set_other l i k v 0 (λ e. omega arith)

pub sets_at : (l : List ℕ) (i : ℕ) (vs : List ℕ) (k : ℕ) → k < length vs → i + length vs ≤ length l → get_or (sets l i vs) (i + k) 0 ≡ get_or vs k 0
sets_at l i [] k h b = absurd (not-suc-le-zero h)
sets_at l i (v ∷ vs) zero h b =
    let at : i + 0 ≡ i = omega arith in
    rw at (sets_before (set l i v) (suc i) vs i (omega arith) ∙ get_or-set_same l i v 0 (omega arith))
sets_at l i (v ∷ vs) (suc k) h b =
    let at : i + suc k ≡ suc i + k = omega arith in
    rw at (sets_at (set l i v) (suc i) vs k (omega arith) (omega (arith, length-set l i v)))

pub sets_drop : (l : List ℕ) (i : ℕ) (vs : List ℕ) (n : ℕ) → i + length vs ≤ n → drop n (sets l i vs) ≡ drop n l
sets_drop l i [] n h = refl
sets_drop l i (v ∷ vs) n h = sets_drop (set l i v) (suc i) vs n (omega arith) ∙ drop-set-lt n l i v (omega arith)

-- six numbers from a place on
pub six_at : (u : List ℕ) (y k : ℕ) → k < deepest → get_or (take deepest (drop y u)) k 0 ≡ get_or u (y + k) 0
six_at u y k h = get_or-take deepest (drop y u) k 0 h ∙ get_or-drop y u k 0

pub six_are : (u : List ℕ) (y : ℕ) (xs : List ℕ) → y + deepest ≤ length u → length xs ≡ deepest
    → ((k : ℕ) → k < deepest → get_or u (y + k) 0 ≡ get_or xs k 0) → take deepest (drop y u) ≡ xs
six_are u y xs h e each =
    let six : length (take deepest (drop y u)) ≡ deepest = length-take-le deepest (drop y u) (rw (length-drop y u) (omega arith)) in
    ext_get_or 0 (take deepest (drop y u)) xs (six ∙ sym e) (λ k l. six_at u y k (omega arith) ∙ each k (omega arith))

-- .. as they are read one by one
pub six_read : (u : List ℕ) (y : ℕ) → y + deepest ≤ length u
    → take deepest (drop y u) ≡ get_or u y 0 ∷ get_or u (y + 1) 0 ∷ get_or u (y + 2) 0 ∷ get_or u (y + 3) 0 ∷ get_or u (y + 4) 0 ∷ get_or u (y + 5) 0 ∷ []
six_read u y h = six_are u y (get_or u y 0 ∷ get_or u (y + 1) 0 ∷ get_or u (y + 2) 0 ∷ get_or u (y + 3) 0 ∷ get_or u (y + 4) 0 ∷ get_or u (y + 5) 0 ∷ []) h refl each
  where
    each : (k : ℕ) → k < deepest → get_or u (y + k) 0 ≡ get_or (get_or u y 0 ∷ get_or u (y + 1) 0 ∷ get_or u (y + 2) 0 ∷ get_or u (y + 3) 0 ∷ get_or u (y + 4) 0 ∷ get_or u (y + 5) 0 ∷ []) k 0
    each zero l = let e : y + 0 ≡ y = omega arith in rw e
    each (suc zero) l = refl
    each (suc (suc zero)) l = refl
    each (suc (suc (suc zero))) l = refl
    each (suc (suc (suc (suc zero)))) l = refl
    each (suc (suc (suc (suc (suc zero))))) l = refl
    each (suc (suc (suc (suc (suc (suc k)))))) l = absurd (omega arith)
