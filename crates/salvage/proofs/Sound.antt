-- "A sound file comes out the same, with zeros": its samples are below A, so all of their bytes are kept. Assumes nothing.
use Rattle.std.specs.Prelude.{Ok}
use Prim.Native.Nat.{ℕ, ◌+◌, ◌-◌}
use native.Mathlib.Omega.{arith}
use mathlib.Core.Path.{◌≡◌, refl, sym, ap, ap₂, ◌∙◌}
use mathlib.Core.List.{List, [], ◌++◌, append-nil}
use lib.ListN.{length, take, drop, length-append, length-drop}
use lib.Seq.{take_at, drop_at, take_all}
use Rattle.replay.specs.Table.{answered}
use Rattle.sitting_file.specs.Format.{header_of, read_of}
use Rattle.sitting_file.specs.Samples.{first_of, second_of}
use Rattle.sitting_file.specs.Verdict.{Bytes, written, with_header, OfFormat}
use Rattle.sitting_file.specs.declared.Shape.{Shape}
use Rattle.sitting_file.proofs.AcceptedFile.{accepted_holds}
use Rattle.sitting_file.proofs.AnswerOnly.{header_on}
use Rattle.sitting_file.proofs.Answers.{answer_exactly}
use Rattle.sitting_file.proofs.Rewritten.{accepted_bytes}
use Rattle.sitting_file.proofs.Written.{format_follow}
use Rattle.writing.specs.Writing.{file_of}
use Rattle.writing.proofs.RoundTrip.{same_file}
use Rattle.salvage.specs.Salvage.{first_bytes, second_bytes, kept_bytes, gone_of, cut_off, Saved, saved_of}
use Rattle.salvage.specs.Saving.{nothing_lost, SoundSame}
use Rattle.salvage.specs.declared.Gone.{Gone}
use Rattle.salvage.proofs.Keeping.{all_kept}
use Rattle.salvage.proofs.Answers.{saved_answers}
use Rattle.salvage.proofs.Parts.{saved_same}

-- bytes that are all below A, as many as are wanted: nothing is gone
none_gone : (A wanted : ℕ) (bytes : List ℕ) → kept_bytes A bytes ≡ bytes → length bytes ≡ wanted → gone_of A wanted bytes ≡ record { missing = 0; dropped = 0 }
none_gone A wanted bytes e f =
    let m : wanted - length bytes ≡ 0 = omega arith in
    let d : length bytes - length (kept_bytes A bytes) ≡ 0 = omega (arith, ap length e) in
    ap₂ (λ (x y : ℕ). record { missing = x; dropped = y }) m d

module _ (file : List ℕ) (shape : Shape) (bytes : Bytes file) (e : read_of file ≡ Ok shape) where
  abbrev A : ℕ
  A = shape.alphabet

  abbrev head : List ℕ
  head = written (with_header shape [])

  abbrev at : ℕ
  at = length head

  abbrev xs : List ℕ
  xs = first_of file shape

  abbrev ys : List ℕ
  ys = second_of file shape

  sound_header : header_of file ≡ Ok (shape, at)
  sound_header =
      let f : OfFormat file shape = (answer_exactly file bytes (Ok shape)).0 (sym e) in
      header_on file shape f.symbols [] (f.bytes ∙ sym (append-nil (written (with_header shape f.symbols)))) (format_follow shape file f)

  -- the bytes after the header are the two samples
  sound_body : drop at file ≡ xs ++ ys
  sound_body = ap (drop at) (accepted_bytes file shape bytes e) ∙ drop_at head (xs ++ ys) at refl

  first_same : first_bytes shape (drop at file) ≡ xs
  first_same = ap (take shape.first) sound_body ∙ take_at xs ys shape.first (accepted_holds file shape e).first_count

  second_same : second_bytes shape (drop at file) ≡ ys
  second_same =
      let h = accepted_holds file shape e in
      ap (λ (l : List ℕ). take shape.second (drop shape.first l)) sound_body ∙ ap (take shape.second) (drop_at xs ys shape.first h.first_count) ∙ take_all shape.second ys (omega (arith, h.second_count))

  first_kept_lem : kept_bytes A xs ≡ xs
  first_kept_lem = all_kept A xs (accepted_holds file shape e).first_below

  second_kept_lem : kept_bytes A ys ≡ ys
  second_kept_lem = all_kept A ys (accepted_holds file shape e).second_below

  nothing_cut : cut_off shape (drop at file) ≡ 0
  nothing_cut =
      let h = accepted_holds file shape e in
      omega (arith, length-drop (shape.first + shape.second) (drop at file), ap length sound_body, length-append xs ys, h.first_count, h.second_count)

  sound_saved : saved_of shape (drop at file) ≡ record { file = file; lost = nothing_lost }
  sound_saved =
      let h = accepted_holds file shape e in
      let f : file_of A shape.depth (kept_bytes A xs) (kept_bytes A ys) ≡ file = ap₂ (file_of A shape.depth) first_kept_lem second_kept_lem ∙ same_file file shape bytes e in
      let g = none_gone A shape.first xs first_kept_lem h.first_count in
      let k = none_gone A shape.second ys second_kept_lem h.second_count in
      saved_same shape (drop at file) xs ys 0 first_same second_same nothing_cut
      ∙ ap₂ (λ (x y : Gone). record { file = file_of A shape.depth (kept_bytes A xs) (kept_bytes A ys); lost = record { first = x; second = y; cut = 0 } }) g k
      ∙ ap (λ (l : List ℕ). record { file = l; lost = nothing_lost }) f

-- THEOREM. "A sound file comes out the same, with zeros."
pub sound_same : SoundSame
sound_same file shape bytes e before after o room w =
    let s = sound_saved file shape bytes e in
    let whole : o ≡ answered (record { file = file; lost = nothing_lost }) =
    w.answers ∙ saved_answers file shape (at file shape bytes e) (sound_header file shape bytes e) (length before) (omega (arith, ap (λ (t : Saved). length t.file) s)) ∙ ap answered s in
    (whole, w.file_written (record { file = file; lost = nothing_lost }) whole)
