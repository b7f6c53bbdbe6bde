-- Standard input read into a program's buffer. Assumes nothing.
use Prim.Native.Nat.{ℕ, min}
use native.Mathlib.Decide.{dec_le}
use native.Mathlib.Omega.{arith}
use mathlib.Core.Path.{◌≡◌, sym, ap, ◌∙◌}
use mathlib.Core.List.{List}
use lib.ListN.{length, take}
use lib.Seq.{take_all}
use Rattle.sitting_file.specs.Input.{input_bytes, ReadInto}

-- what was read into the buffer are as many of the input's first bytes as it has
pub first_read : (stdin buffer : List ℕ) (many : ℕ) → length buffer ≡ input_bytes → ReadInto stdin buffer many → take many buffer ≡ take input_bytes stdin
first_read stdin buffer many long r = r.bytes ∙ elim (dec_le (length stdin) input_bytes) [
  | yes h ↦ take_all many stdin (omega (arith, r.count)) ∙ sym (take_all input_bytes stdin h)
  | no h ↦ (let e : many ≡ input_bytes = omega (arith, r.count) in ap (λ (n : ℕ). take n stdin) e)
]

-- as many of the buffer's bytes as were read, and no more than it has
pub bytes_judged : (buffer : List ℕ) (many end : ℕ) → length buffer ≡ input_bytes → end ≡ min many input_bytes → take end buffer ≡ take many buffer
bytes_judged buffer many end long e = elim (dec_le many input_bytes) [
  | yes h ↦ (let q : end ≡ many = omega arith in ap (λ (n : ℕ). take n buffer) q)
  | no h ↦ take_all end buffer (omega arith) ∙ sym (take_all many buffer (omega arith))
]
