-- What is written reads back as the same sitting, and an accepted file written again has the same bytes. Assumes nothing.
use Prim.Native.Nat.{ℕ}
use Rattle.std.specs.Prelude.{Ok}
use native.Mathlib.Omega.{arith}
use mathlib.Core.Path.{◌≡◌, refl, sym, ap, subst, ◌∙◌}
use mathlib.Core.List.{List, [], ◌++◌}
use lib.ListN.{length, take, drop}
use lib.Seq.{take-append_seam, drop-append_seam, take_at}
use Rattle.numbers.proofs.Tests.{T?}
use Rattle.replay.specs.Table.{answered}
use Rattle.replay.proofs.Tables.{no_refusal, number_same}
use Rattle.sitting_file.specs.Format.{read_of}
use Rattle.sitting_file.specs.Samples.{InLimits, first_of, second_of}
use Rattle.sitting_file.specs.Verdict.{Bytes, written, with_header}
use Rattle.sitting_file.specs.declared.Shape.{Shape}
use Rattle.sitting_file.proofs.AnswerOnly.{answer_only}
use Rattle.sitting_file.proofs.AcceptedFile.{accepted_holds}
use Rattle.sitting_file.proofs.Rewritten.{accepted_bytes}
use Rattle.writing.specs.Writing.{shape_of, file_of, good_values}
use Rattle.writing.specs.RoundTrips.{ReadsAs, ReadsBack, WritesBack, NeverShort}
use Rattle.writing.proofs.Good.{Good, good, file_parts, of_format, file_symbols}
use Rattle.writing.proofs.Sizes.{file_fits}
use Rattle.writing.proofs.Answers.{good_answers, bad_refused, accepted}

-- the file of good values is accepted as those
module _ (A D : ℕ) (xs ys : List ℕ) (h : Good A D xs ys) where
  pub file_reads : ReadsAs (file_of A D xs ys) A D xs ys
  file_reads = record {
    accepted = sym (answer_only (file_of A D xs ys) (Ok (shape_of A D xs ys)) (of_format A D xs ys h));
    its_first = ap (take (length xs)) (sym (file_symbols A D xs ys h)) ∙ take-append_seam xs ys;
    its_second = ap (drop (length xs)) (sym (file_symbols A D xs ys h)) ∙ drop-append_seam xs ys;
  }

-- THEOREM. "What is written reads back as the same sitting"
pub reads_back : ReadsBack
reads_back A D xs ys before after n w =
    let k = accepted A D xs ys before after n w in
    subst (λ (file : List ℕ). ReadsAs file A D xs ys) (sym (ap (take n) (w.file_written n refl) ∙ take_at (file_of A D xs ys) (drop n before) n k.1)) (file_reads A D xs ys k.0)

-- ---- an accepted file

module _ (file : List ℕ) (shape : Shape) (bytes : Bytes file) (e : read_of file ≡ Ok shape) where
  abbrev xs : List ℕ
  xs = first_of file shape

  abbrev ys : List ℕ
  ys = second_of file shape

  same_shape : shape_of shape.alphabet shape.depth xs ys ≡ shape
  same_shape = let h = accepted_holds file shape e in rw (h.first_count, h.second_count)

  accepted_good : Good shape.alphabet shape.depth xs ys
  accepted_good =
      let h = accepted_holds file shape e in
      record { limits = subst InLimits (sym same_shape) h.limits; first_below = h.first_below; second_below = h.second_below }

  -- its values make the same file
  pub same_file : file_of shape.alphabet shape.depth xs ys ≡ file
  same_file =
      file_parts shape.alphabet shape.depth xs ys accepted_good
      ∙ ap (λ (q : Shape). written (with_header q []) ++ (xs ++ ys)) same_shape
      ∙ sym (accepted_bytes file shape bytes e)

-- THEOREM. "any accepted file written again has the same bytes"
pub writes_back : WritesBack
writes_back file shape bytes e before after o room w =
    let same = same_file file shape bytes e in
    let long = ap length same in
    let whole : o ≡ answered (length file) =
    w.answers ∙ good_answers shape.alphabet shape.depth (first_of file shape) (second_of file shape) (length before) (accepted_good file shape bytes e) (omega arith) ∙ ap answered long in
    record { whole = whole; same_bytes = w.file_written (length file) whole ∙ ap (λ (l : List ℕ). l ++ drop (length file) before) same }

-- THEOREM. With six bytes more than the samples have symbols, 19 is never given
pub never_short : NeverShort
never_short A D xs ys before after o room w e = elim (T? (good_values A D xs ys)) [
  | yes t ↦ no_refusal (w.answers ∙ good_answers A D xs ys (length before) (good A D xs ys t) (omega (arith, file_fits A D xs ys (good A D xs ys t)))) e
  | no f ↦ let z : ◌≡◌ {A = ℕ} 15 19 = number_same (sym (bad_refused A D xs ys (length before) f) ∙ sym w.answers ∙ e) in omega arith
]
