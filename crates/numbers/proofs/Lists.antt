-- Laws of lists and their parts. Assumes nothing.
use Prim.Native.Nat.{ℕ, zero, suc, ◌+◌, ◌-◌, ◌<◌}
use native.Mathlib.Nat.{sub-zero, zero-sub, suc-sub-suc}
use native.Mathlib.Numerals.{add-one}
use mathlib.Core.Path.{◌≡◌, refl, sym, ◌∙◌}
use mathlib.Core.List.{List, [], ◌∷◌}
use lib.ListN.{length, take, drop, get_or, replicate}
use lib.Seq.{take-nil, drop-cons, drop-length, get_or-take, get_or-drop}

-- what a loop has before it: one element and the others, or nothing
pub cons_at : {X : Type 0} (l : List X) (i : ℕ) (d : X) → i < length l → drop i l ≡ get_or l i d ∷ drop (i + 1) l
cons_at l i d h = rw add-one (drop-cons l i d h)

pub none_at : {X : Type 0} (l : List X) (i : ℕ) → i ≡ length l → drop i l ≡ []
none_at l i e = rw e (drop-length l)

pub drop_take : {X : Type 0} (w k : ℕ) (l : List X) → drop w (take k l) ≡ take (k - w) (drop w l)
drop_take zero k l = rw (sub-zero k)
drop_take (suc w) zero l = rw (zero-sub (suc w))
drop_take (suc w) (suc k) [] = sym (take-nil (suc k - suc w))
drop_take (suc w) (suc k) (x ∷ l) = rw (suc-sub-suc k w) (drop_take w k l)

-- element i of the n elements from a place on
pub get_d_part : {X : Type 0} (n from : ℕ) (l : List X) (i : ℕ) (d : X) → i < n → get_or (take n (drop from l)) i d ≡ get_or l (from + i) d
get_d_part n from l i d h = get_or-take n (drop from l) i d h ∙ get_or-drop from l i d

-- zeros
pub zeros_at : (n i : ℕ) → ◌≡◌ {A = ℕ} (get_or (replicate n 0) i 0) 0
zeros_at zero i = refl
zeros_at (suc n) zero = refl
zeros_at (suc n) (suc i) = zeros_at n i
