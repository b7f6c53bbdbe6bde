-- A part of a slice from a to e that was lent and has come back as ys: the slice then holds `take a l ++ (ys ++ drop (e - a) (drop a l))`.
-- Assumes nothing.
use mathlib.Core.Path.{◌≡◌, sym, ap, ◌∙◌}
use mathlib.Core.List.{List, [], ◌++◌, append_assoc, append-nil}
use Prim.Native.Nat.{ℕ, ◌+◌, ◌-◌, ◌≤◌}
use native.Mathlib.Nat.{le_of_eq}
use native.Mathlib.Omega.{arith}
use lib.ListN.{length, take, drop, length-append, length-drop, take-append-drop, drop_of_length-le}
use lib.Seq.{length-take-le, drop_at, drop-append-le, drop-drop, take_all}

-- what agrees from a on agrees from b on
pub agree_later : (a b : ℕ) (x y : List ℕ) → a ≤ b → drop a x ≡ drop a y → drop b x ≡ drop b y
agree_later a b x y h e =
    let whole : a + (b - a) ≡ b = omega arith in
    rw (← whole, ← drop-drop (b - a) a x, ← drop-drop (b - a) a y) (ap (drop (b - a)) e)

module _ (a e : ℕ) (l : List ℕ) (h : a ≤ e) (g : e ≤ length l) where
  front_long : (ys : List ℕ) → length (take a l ++ ys) ≡ a + length ys
  front_long ys = length-append (take a l) ys ∙ rw (length-take-le a l (omega arith))

  -- what stands past the part is as before
  pub past_lent : (ys : List ℕ) → length ys ≡ e - a → drop e (take a l ++ (ys ++ drop (e - a) (drop a l))) ≡ drop e l
  past_lent ys q =
      let rest = drop (e - a) (drop a l) in
      let long : length (take a l ++ ys) ≡ e = front_long ys ∙ omega arith in
      let whole : a + (e - a) ≡ e = omega arith in
      ap (drop e) (sym (append_assoc (take a l) ys rest))
      ∙ drop_at (take a l ++ ys) rest e long
      ∙ drop-drop (e - a) a l
      ∙ ap (λ (k : ℕ). drop k l) whole

  -- where the part's own end was left as it was, that is as before too
  pub past_kept : (c : ℕ) (ys : List ℕ) → length ys + c ≡ e - a
      → drop (e - c) (take a l ++ (ys ++ drop (e - a - c) (take (e - a) (drop a l)) ++ drop (e - a) (drop a l))) ≡ drop (e - c) l
  past_kept c ys q =
      let lent = take (e - a) (drop a l) in
      let rest = drop (e - a) (drop a l) in
      let kept = drop (e - a - c) lent in
      let long : length (take a l ++ ys) ≡ e - c = front_long ys ∙ omega arith in
      let size : length lent ≡ e - a = length-take-le (e - a) (drop a l) (rw (length-drop a l) (omega arith)) in
      let whole : a + (e - a - c) ≡ e - c = omega arith in
      ap (λ (t : List ℕ). drop (e - c) (take a l ++ t)) (append_assoc ys kept rest)
      ∙ ap (drop (e - c)) (sym (append_assoc (take a l) ys (kept ++ rest)))
      ∙ drop_at (take a l ++ ys) (kept ++ rest) (e - c) long
      ∙ sym (drop-append-le (e - a - c) lent rest (omega arith))
      ∙ ap (drop (e - a - c)) (take-append-drop (e - a) (drop a l))
      ∙ drop-drop (e - a - c) a l
      ∙ ap (λ (k : ℕ). drop k l) whole

-- a part up to the end, as it is lent and as it comes back
pub tail_lent : (a : ℕ) (l : List ℕ) → take (length l - a) (drop a l) ≡ drop a l
tail_lent a l = take_all (length l - a) (drop a l) (le_of_eq (length-drop a l))

pub tail_back : (a : ℕ) (ys l : List ℕ) → take a l ++ (ys ++ drop (length l - a) (drop a l)) ≡ take a l ++ ys
tail_back a ys l =
    let none : drop (length l - a) (drop a l) ≡ [] = drop_of_length-le (drop a l) {i = length l - a} (le_of_eq (length-drop a l)) in
    rw (none, append-nil ys)
