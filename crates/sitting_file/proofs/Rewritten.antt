-- An accepted file is its header's four numbers in their shortest forms and then its symbols, a byte each. Assumes nothing.
use Rattle.std.specs.Prelude.{Ok}
use Prim.Native.Nat.{ℕ, suc, ◌+◌, ◌-◌, ◌<◌, ◌≤◌}
use mathlib.Core.Path.{◌≡◌, refl, sym, ap, ◌∙◌}
use mathlib.Core.List.{List, [], ◌∷◌, ◌++◌}
use native.Mathlib.Omega.{arith}
use lib.ListN.{length, drop, length-append, take-append-drop}
use lib.Seq.{drop_at}
use Rattle.numbers.specs.Limits.{most_symbols}
use Rattle.sitting_file.specs.Format.{read_of}
use Rattle.sitting_file.specs.Samples.{Below, last_symbols, first_of, second_of}
use Rattle.sitting_file.specs.Verdict.{Bytes, written, with_header, OfFormat}
use Rattle.sitting_file.specs.declared.Shape.{Shape}
use Rattle.sitting_file.proofs.Shortest.{one_byte}
use Rattle.sitting_file.proofs.Written.{written_append}
use Rattle.sitting_file.proofs.Answers.{answer_exactly}

-- a symbol's shortest form is the symbol
pub one_each : (A : ℕ) (ss : List ℕ) → A ≤ most_symbols → Below A ss → written ss ≡ ss
one_each A [] h b = refl
one_each A (x ∷ ss) h b =
    let small : x < A = b 0 (omega arith) in
    rw (one_byte x (omega arith), one_each A ss h (λ i l. b (suc i) (omega arith)))

module _ (file : List ℕ) (shape : Shape) where
  abbrev head : List ℕ
  head = written (with_header shape [])

  format_bytes : (f : OfFormat file shape) → file ≡ head ++ f.symbols
  format_bytes f = f.bytes ∙ written_append (with_header shape []) f.symbols ∙ ap (λ (l : List ℕ). head ++ l) (one_each shape.alphabet f.symbols f.limits.alphabet_high f.below)

  -- the symbols of a file of the format are its last n + m bytes
  pub format_symbols : (f : OfFormat file shape) → f.symbols ≡ last_symbols file shape
  format_symbols f =
      let long : length file ≡ length head + length f.symbols = ap length (format_bytes f) ∙ length-append head f.symbols in
      let count : length f.symbols ≡ shape.first + shape.second = f.count in
      let start : length head ≡ length file - (shape.first + shape.second) = omega arith in
      sym (ap (drop (length file - (shape.first + shape.second))) (format_bytes f) ∙ drop_at head f.symbols _ start)

  pub accepted_bytes : Bytes file → read_of file ≡ Ok shape → file ≡ written (with_header shape []) ++ (first_of file shape ++ second_of file shape)
  accepted_bytes bytes e =
      let f = (answer_exactly file bytes (Ok shape)).0 (sym e) in
      format_bytes f ∙ ap (λ (l : List ℕ). head ++ l) (format_symbols f ∙ sym (take-append-drop shape.first (last_symbols file shape)))
