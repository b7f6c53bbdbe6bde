-- An array made by a call at each index, where each call reads a number at its place. Assumes nothing.
use mathlib.Core.Path.{◌≡◌, sym, ◌∙◌}
use mathlib.Core.List.{List}
use Prim.Native.Nat.{ℕ, zero, suc, ◌+◌, ◌≤◌, ◌<◌}
use native.Mathlib.Omega.{arith}
use denote.Param.Members.{Mut, Called}
use lib.ListN.{length, take, drop, get_or, length-drop}
use lib.Seq.{length-take-le}
use Rattle.std.proofs.lemmas.List.{ext_get_or}
use Rattle.std.specs.Array.{IsFromFnResult, IsFromFnResultFrom}
use Rattle.numbers.proofs.Orders.{less, same, more, order}
use Rattle.numbers.proofs.Lists.{get_d_part}

module _ {F : Type 0} (g : Mut F (ℕ × Unit {0}) ℕ) (h : ℕ → ℕ) (Keeps : F → Type 0)
    (turn : (f q : F) (i y : ℕ) → Keeps f → Called g f (i, tt) y q → (y ≡ h i) × Keeps q) where
  each_read : (f : F) (ys : List ℕ) (i n j : ℕ) → Keeps f → IsFromFnResultFrom g f ys i n → i ≤ j → j < i + n → get_or ys j 0 ≡ h j
  each_read f ys i zero j s r a u = absurd (omega arith)
  each_read f ys i (suc n) j s (q, y, at, called, rest) a u = elim (order i j) [
    | less b ↦ each_read q ys (i + 1) n j (turn f q i y s called).1 rest (omega arith) (omega arith)
    | same b ↦ rw (← b) (at.1 0 ∙ (turn f q i y s called).0)
    | more b ↦ absurd (omega arith)
  ]

  -- the array is the run of numbers from the place on
  pub run_read : (f : F) (ys : List ℕ) (n at : ℕ) (l : List ℕ) → Keeps f → IsFromFnResult g f ys n → at + n ≤ length l → ((i : ℕ) → i < n → h i ≡ get_or l (at + i) 0) → ys ≡ take n (drop at l)
  run_read f ys n at l s r fits reads =
      let long : length (take n (drop at l)) ≡ n = length-take-le n (drop at l) (rw (length-drop at l) (omega arith)) in
      ext_get_or 0 ys (take n (drop at l)) (r.long ∙ sym long) (λ i u.
      let inside : i < n = omega (arith, r.long) in
      each_read f ys 0 n i s r.each (omega arith) (omega arith) ∙ reads i inside ∙ sym (get_d_part n at l i 0 inside))
