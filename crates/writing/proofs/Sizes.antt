-- How long a file is. Assumes nothing.
use Prim.Native.Nat.{ℕ, ◌+◌, ◌≤◌, ◌<◌}
use native.Mathlib.Omega.{arith}
use mathlib.Core.Path.{◌≡◌, refl, ap, ◌∙◌}
use mathlib.Core.Bool.{Bool, true, false}
use mathlib.Core.List.{List}
use lib.Dec.{ltb}
use lib.ListN.{length, length-append}
use borrow.Author.Tests.{ltb-true, ltb-false}
use Rattle.sitting_file.specs.Format.{high_bit}
use Rattle.sitting_file.specs.Samples.{longest_header}
use Rattle.sitting_file.specs.Verdict.{shortest}
use Rattle.sitting_file.proofs.Shortest.{one_byte, two_bytes}
use Rattle.writing.specs.Writing.{file_of}
use Rattle.writing.proofs.Good.{Good, file_parts}

-- one byte where the first group holds the number, else two
pub one_long : (v : ℕ) → v < high_bit → length (shortest v) ≡ 1
one_long v h = ap length (one_byte v h)

pub two_long : (v : ℕ) → high_bit ≤ v → length (shortest v) ≡ 2
two_long v h = ap length (two_bytes v h)

pub at_most_two : (v : ℕ) → length (shortest v) ≤ 2
at_most_two v = go (ltb v high_bit) refl
  where
    go : (t : Bool) → ltb v high_bit ≡ t → length (shortest v) ≤ 2
    go true e = omega (arith, one_long v (ltb-true v high_bit e))
    go false e = omega (arith, two_long v (ltb-false v high_bit e))

module _ (A D : ℕ) (xs ys : List ℕ) (h : Good A D xs ys) where
  -- A and D have a byte each
  pub file_long : length (file_of A D xs ys) ≡ 2 + (length (shortest (length xs)) + length (shortest (length ys))) + (length xs + length ys)
  file_long =
      let l = h.limits in
      let a = one_long A (omega (arith, l.alphabet_high)) in
      let d = one_long D (omega (arith, l.depth_high)) in
      ap length (file_parts A D xs ys h) ∙ simp length-append (omega (arith, a, d))

  pub file_fits : length (file_of A D xs ys) ≤ longest_header + (length xs + length ys)
  file_fits = omega (arith, file_long, at_most_two (length xs), at_most_two (length ys))
