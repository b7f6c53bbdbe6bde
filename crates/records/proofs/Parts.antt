-- Laws of `parts`, for any width: a caller goes by these and never opens it. Assumes nothing.
use mathlib.Core.Path.{◌≡◌, refl, sym, ap, ap₂, ◌∙◌}
use mathlib.Core.List.{List, [], ◌∷◌, ◌++◌, append_assoc}
use Prim.Native.Nat.{ℕ, zero, suc, ◌+◌, ◌-◌, ◌*◌, ◌≤◌, ◌<◌}
use native.Mathlib.Nat.{not-suc-le-zero, zero-add, suc-add, mul-zero, le_of_suc-le-suc, le_refl, mul-add, mul-le-mul_left, add-sub_of_le}
use native.Mathlib.Omega.{arith}
use lib.ListN.{length, take, drop, get_or, set, length-drop, take-append-drop}
use lib.Seq.{take_all, length-take-le, take-append-le, drop-append-le, drop-drop, take-take, take-set-lt, drop-set-lt, take-set-le, drop-set-add}
use Rattle.numbers.proofs.Lists.{drop_take, get_d_part}
use Rattle.std.specs.Simd.{first_chunks}
use Rattle.records.specs.Records.{width, parts, records}
use Rattle.records.specs.Held.{Wide}

empty : (a : List ℕ) → length a ≡ 0 → a ≡ []
empty [] e = refl
empty (x ∷ xs) e = absurd (omega arith)

module _ (w : ℕ) where
  pub length_parts : (n : ℕ) (l : List ℕ) → length (parts w n l) ≡ n
  unfolding parts
  length_parts zero l = refl
  length_parts (suc n) l = ap suc (length_parts n (drop w l))

  -- part i
  pub part_at : (n i : ℕ) (l : List ℕ) → i < n → get_or (parts w n l) i [] ≡ take w (drop (w * i) l)
  unfolding parts
  part_at zero i l h = absurd (not-suc-le-zero h)
  part_at (suc n) zero l h = rw (mul-zero w)
  part_at (suc n) (suc i) l h =
      let step : w + w * i ≡ w * suc i = omega arith in
      part_at n i (drop w l) (le_of_suc-le-suc h) ∙ ap (take w) (drop-drop (w * i) w l ∙ ap (λ (k : ℕ). drop k l) step)

  -- number j of part i
  pub cell_at : (n i j : ℕ) (l : List ℕ) → i < n → j < w → get_or (get_or (parts w n l) i []) j 0 ≡ get_or l (w * i + j) 0
  cell_at n i j l hi hj = rw (part_at n i l hi) (get_d_part w (w * i) l j 0 hj)

  -- a list that is cut between two parts
  pub parts_append : (n m : ℕ) (a b : List ℕ) → length a ≡ w * n → parts w (n + m) (a ++ b) ≡ parts w n a ++ parts w m b
  unfolding parts
  parts_append zero m a b e =
      let nil : a ≡ [] = empty a (omega (arith, mul-zero w)) in
      rw (nil, zero-add)
  parts_append (suc n) m a b e =
      let fits : w ≤ length a = omega arith in
      let rest : length (drop w a) ≡ w * n = length-drop w a ∙ omega arith in
      rw suc-add (ap₂ {C = List (List ℕ)} (λ h t. h ∷ t) (take-append-le w a b fits) (ap (parts w (n + m)) (drop-append-le w a b fits) ∙ parts_append n m (drop w a) b rest))

  -- the first p parts, and those after them
  pub take_parts : (p n : ℕ) (l : List ℕ) → p ≤ n → take p (parts w n l) ≡ parts w p l
  unfolding parts
  take_parts zero n l h = refl
  take_parts (suc p) zero l h = absurd (not-suc-le-zero h)
  take_parts (suc p) (suc n) l h = ap (λ (t : List (List ℕ)). take w l ∷ t) (take_parts p n (drop w l) (le_of_suc-le-suc h))

  pub drop_parts : (p n : ℕ) (l : List ℕ) → p ≤ n → drop p (parts w n l) ≡ parts w (n - p) (drop (w * p) l)
  unfolding parts
  drop_parts zero n l h =
      let same : n - 0 ≡ n = omega arith in
      rw (same, mul-zero w)
  drop_parts (suc p) zero l h = absurd (not-suc-le-zero h)
  drop_parts (suc p) (suc n) l h =
      let step : w + w * p ≡ w * suc p = omega arith in
      let less : n - p ≡ suc n - suc p = omega arith in
      drop_parts p n (drop w l) (le_of_suc-le-suc h) ∙ ap₂ (parts w) less (drop-drop (w * p) w l ∙ ap (λ (k : ℕ). drop k l) step)

  -- numbers past the parts do not matter
  pub parts_of_take : (n k : ℕ) (l : List ℕ) → w * n ≤ k → parts w n (take k l) ≡ parts w n l
  unfolding parts
  parts_of_take zero k l h = refl
  parts_of_take (suc n) k l h =
      ap₂ {C = List (List ℕ)} (λ h t. h ∷ t) (take-take w k l (omega arith)) (ap (parts w n) (drop_take w k l) ∙ parts_of_take n (k - w) (drop w l) (omega arith))

  pub parts_front : (n : ℕ) (a b : List ℕ) → w * n ≤ length a → parts w n (a ++ b) ≡ parts w n a
  unfolding parts
  parts_front zero a b h = refl
  parts_front (suc n) a b h =
      let fits : w ≤ length a = omega arith in
      let rest : w * n ≤ length (drop w a) = rw (length-drop w a) (omega arith) in
      ap₂ {C = List (List ℕ)} (λ h t. h ∷ t) (take-append-le w a b fits) (ap (parts w n) (drop-append-le w a b fits) ∙ parts_front n (drop w a) b rest)

  -- a number of part i is written
  pub parts_set : (n i j v : ℕ) (l : List ℕ) → i < n → j < w → parts w n (set l (w * i + j) v) ≡ set (parts w n l) i (set (get_or (parts w n l) i []) j v)
  unfolding parts
  parts_set zero i j v l hi hj = absurd (not-suc-le-zero hi)
  parts_set (suc n) zero j v l hi hj =
      rw (mul-zero w, zero-add) (ap₂ {C = List (List ℕ)} (λ h t. h ∷ t) (take-set-lt w l j v hj) (ap (parts w n) (drop-set-lt w l j v hj)))
  parts_set (suc n) (suc i) j v l hi hj =
      let step : w * suc i + j ≡ w + (w * i + j) = omega arith in
      rw step (ap₂ {C = List (List ℕ)} (λ h t. h ∷ t) (take-set-le w l (w + (w * i + j)) v (omega arith)) (ap (parts w n) (drop-set-add w l (w * i + j) v) ∙ parts_set n i j v (drop w l) (le_of_suc-le-suc hi) hj))

  pub one_part : (r : List ℕ) → length r ≡ w → parts w 1 r ≡ r ∷ []
  unfolding parts
  one_part r e = ap (λ (x : List ℕ). x ∷ []) (take_all w r (omega arith))

  -- a part r after the first p
  pub parts_put : (p : ℕ) (r b l : List ℕ) → w * p ≤ length l → length r ≡ w → parts w (p + 1) (take (w * p) l ++ (r ++ b)) ≡ parts w p l ++ (r ∷ [])
  parts_put p r b l h e =
      parts_append p 1 (take (w * p) l) (r ++ b) (length-take-le (w * p) l h)
      ∙ ap₂ (λ (x y : List (List ℕ)). x ++ y) (parts_of_take p (w * p) l (le_refl (w * p))) (parts_front 1 r b (omega arith) ∙ one_part r e)

  -- the parts and what stands past them are all there is
  pub same_numbers : (n : ℕ) (x y : List ℕ) → parts w n x ≡ parts w n y → drop (w * n) x ≡ drop (w * n) y → x ≡ y
  unfolding parts
  same_numbers zero x y e d = rw (mul-zero w) at d
  same_numbers (suc n) x y e d =
      let step : w + w * n ≡ w * suc n = omega arith in
      let head : take w x ≡ take w y = ap (λ (t : List (List ℕ)). get_or t 0 []) e in
      let rest : drop w x ≡ drop w y =
      same_numbers n (drop w x) (drop w y) (ap (drop 1) e) (rw (drop-drop (w * n) w x, drop-drop (w * n) w y, step) d) in
      sym (take-append-drop w x) ∙ ap₂ (λ (a b : List ℕ). a ++ b) head rest ∙ take-append-drop w y

module _ (w n : ℕ) (l : List ℕ) (fits : w * n ≤ length l) where
  -- q new parts r at place p: the parts from p on, which are a, stand after them
  pub parts_insert : (p q : ℕ) (r a b : List ℕ) → p ≤ n → length r ≡ w * q → a ≡ take (w * (n - p)) (drop (w * p) l)
      → parts w (n + q) (take (w * p) l ++ (r ++ a ++ b)) ≡ take p (parts w n l) ++ (parts w q r ++ drop p (parts w n l))
  parts_insert p q r a b h e f =
      let m = n - p in
      let front = take (w * p) l in
      let split : p + m ≡ n = omega arith in
      let grown : n + q ≡ p + (q + m) = omega arith in
      let cut : w * p + w * m ≡ w * n = sym (mul-add w p m) ∙ ap (λ (k : ℕ). w * k) split in
      let long : length a ≡ w * m = ap length f ∙ length-take-le (w * m) (drop (w * p) l) (rw (length-drop (w * p) l) (omega arith)) in
      let first : parts w p front ≡ take p (parts w n l) = parts_of_take w p (w * p) l (le_refl (w * p)) ∙ sym (take_parts w p n l h) in
      let last : parts w m (a ++ b) ≡ drop p (parts w n l) =
      parts_front w m a b (omega arith) ∙ ap (parts w m) f ∙ parts_of_take w m (w * m) (drop (w * p) l) (le_refl (w * m)) ∙ sym (drop_parts w p n l h) in
      let new : parts w (q + m) (r ++ a ++ b) ≡ parts w q r ++ drop p (parts w n l) =
      ap (parts w (q + m)) (append_assoc r a b)
      ∙ parts_append w q m r (a ++ b) e
      ∙ ap (λ (y : List (List ℕ)). parts w q r ++ y) last in
      ap (λ (k : ℕ). parts w k (front ++ (r ++ a ++ b))) grown
      ∙ parts_append w p (q + m) front (r ++ a ++ b) (length-take-le (w * p) l (omega arith))
      ∙ ap₂ (λ (x y : List (List ℕ)). x ++ y) first new

  -- the parts from a to b are taken out: those from b on, which are y, stand in their place
  pub parts_remove : (a b : ℕ) (y z : List ℕ) → a ≤ n → b ≤ n → y ≡ take (w * (n - b)) (drop (w * b) l)
      → parts w (a + (n - b)) (take (w * a) l ++ (y ++ z)) ≡ take a (parts w n l) ++ drop b (parts w n l)
  parts_remove a b y z ha hb q =
      let m = n - b in
      let fits-a : w * a ≤ w * n = mul-le-mul_left w ha in
      let cut : w * b + w * m ≡ w * n = sym (mul-add w b m) ∙ ap (λ (k : ℕ). w * k) (add-sub_of_le hb) in
      let long : length y ≡ w * m = ap length q ∙ length-take-le (w * m) (drop (w * b) l) (rw (length-drop (w * b) l) (omega arith)) in
      let last : parts w m (y ++ z) ≡ drop b (parts w n l) =
      parts_front w m y z (omega arith) ∙ ap (parts w m) q ∙ parts_of_take w m (w * m) (drop (w * b) l) (le_refl (w * m)) ∙ sym (drop_parts w b n l hb) in
      parts_append w a m (take (w * a) l) (y ++ z) (length-take-le (w * a) l (omega arith))
      ∙ ap₂ (λ (u v : List (List ℕ)). u ++ v) (parts_of_take w a (w * a) l (le_refl (w * a)) ∙ sym (take_parts w a n l ha)) last

-- records that fit in the numbers have all theirs
pub wide_records : (n : ℕ) (l : List ℕ) → width * n ≤ length l → Wide (records n l)
unfolding parts
wide_records zero l h = tt
wide_records (suc n) l h = (length-take-le width l (omega arith), wide_records n (drop width l) (rw (length-drop width l) (omega arith)))

-- the parts of a list cut up whole, the first n of them
pub parts_chunked : (w n k : ℕ) (l : List ℕ) → n ≤ k → take n (first_chunks w k l) ≡ parts w n l
unfolding parts
parts_chunked w zero k l h = refl
parts_chunked w (suc n) zero l h = absurd (omega arith)
parts_chunked w (suc n) (suc k) l h = ap (λ (ps : List (List ℕ)). take w l ∷ ps) (parts_chunked w n k (drop w l) (omega arith))
