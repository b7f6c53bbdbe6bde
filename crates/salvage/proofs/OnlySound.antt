-- A file that comes out with zeros is the same, and the reader accepts it: nothing was missing, dropped or cut off. Assumes nothing.
use Rattle.std.specs.Prelude.{Ok}
use Prim.Native.Nat.{ℕ, ◌+◌, ◌-◌, ◌≤◌}
use native.Mathlib.Omega.{arith}
use mathlib.Core.Path.{◌≡◌, sym, ap, ap₂, ◌∙◌}
use mathlib.Core.List.{List, [], ◌++◌}
use lib.ListN.{length, drop, length-take, length-drop, take-append-drop}
use lib.Seq.{take_all}
use Rattle.sitting_file.specs.Format.{header_of, read_of}
use Rattle.sitting_file.specs.Verdict.{Bytes, written, with_header}
use Rattle.sitting_file.specs.declared.Shape.{Shape}
use Rattle.sitting_file.proofs.AnswerTrue.{header_bytes}
use Rattle.writing.specs.Writing.{shape_of}
use Rattle.writing.proofs.Good.{file_parts}
use Rattle.salvage.specs.Salvage.{first_bytes, second_bytes, kept_bytes, gone_of, Saved, saved_of}
use Rattle.salvage.specs.Saving.{nothing_lost, OnlySound}
use Rattle.salvage.specs.declared.Gone.{Gone}
use Rattle.salvage.specs.declared.Lost.{Lost}
use Rattle.salvage.proofs.Keeping.{whole_kept}
use Rattle.salvage.proofs.Answers.{kept_good}
use Rattle.salvage.proofs.Saving.{behind, file_at_start, each_saves}

-- where nothing is gone of a sample, all of its bytes are there and kept
none_missing : (A wanted : ℕ) (bytes : List ℕ) → gone_of A wanted bytes ≡ record { missing = 0; dropped = 0 } → length bytes ≤ wanted → (kept_bytes A bytes ≡ bytes) × (length bytes ≡ wanted)
none_missing A wanted bytes e h =
    let missing : wanted - length bytes ≡ 0 = ap (λ (g : Gone). g.missing) e in
    let dropped : length bytes - length (kept_bytes A bytes) ≡ 0 = ap (λ (g : Gone). g.dropped) e in
    (whole_kept A bytes (omega (arith, dropped)), omega (arith, missing, h))

module _ (damaged : List ℕ) (bytes : Bytes damaged) (shape : Shape) (place : ℕ) (whole : header_of damaged ≡ Ok (shape, place)) (e : (saved_of shape (drop place damaged)).lost ≡ nothing_lost) where
  abbrev body : List ℕ
  body = drop place damaged

  abbrev us : List ℕ
  us = first_bytes shape body

  abbrev vs : List ℕ
  vs = second_bytes shape body

  first_whole : (kept_bytes shape.alphabet us ≡ us) × (length us ≡ shape.first)
  first_whole = none_missing shape.alphabet shape.first us (ap (λ (l : Lost). l.first) e) (omega (arith, length-take shape.first body))

  second_whole : (kept_bytes shape.alphabet vs ≡ vs) × (length vs ≡ shape.second)
  second_whole = none_missing shape.alphabet shape.second vs (ap (λ (l : Lost). l.second) e) (omega (arith, length-take shape.second (drop shape.first body)))

  -- nothing is behind the two samples
  all_samples : us ++ vs ≡ body
  all_samples =
      let rest = drop shape.first body in
      let cut : length (drop (shape.first + shape.second) body) ≡ 0 = ap (λ (l : Lost). l.cut) e in
      let short : length rest ≤ shape.second = omega (arith, cut, length-drop (shape.first + shape.second) body, length-drop shape.first body) in
      ap (λ (l : List ℕ). us ++ l) (take_all shape.second rest short) ∙ take-append-drop shape.first body

  same_shape : shape_of shape.alphabet shape.depth (kept_bytes shape.alphabet us) (kept_bytes shape.alphabet vs) ≡ shape
  same_shape =
      ap₂ (λ (n m : ℕ). record { alphabet = shape.alphabet; depth = shape.depth; first = n; second = m }) (ap length first_whole.0 ∙ first_whole.1) (ap length second_whole.0 ∙ second_whole.1)

  -- the saved file is the damaged one
  same_bytes : (saved_of shape body).file ≡ damaged
  same_bytes =
      file_parts shape.alphabet shape.depth (kept_bytes shape.alphabet us) (kept_bytes shape.alphabet vs) (kept_good damaged shape place whole)
      ∙ ap₂ (λ (q : Shape) (l : List ℕ). written (with_header q []) ++ l) same_shape (ap₂ (λ (xs ys : List ℕ). xs ++ ys) first_whole.0 second_whole.0 ∙ all_samples)
      ∙ sym (header_bytes damaged bytes shape place whole)

-- THEOREM. A file that comes out with zeros is the same, and the reader accepts it
pub only_sound : OnlySound
only_sound damaged before after s bytes w e =
    let b = behind damaged (length before) s w.answers in
    let none : (saved_of b.shape (drop b.place damaged)).lost ≡ nothing_lost = ap (λ (t : Saved). t.lost) b.same ∙ e in
    let same : s.file ≡ damaged = ap (λ (t : Saved). t.file) (sym b.same) ∙ same_bytes damaged bytes b.shape b.place b.header none in
    let v = each_saves damaged before after s w in
    (same, (shape_of v.shape.alphabet v.shape.depth v.first v.second, ap read_of (sym (file_at_start damaged before after s w ∙ same)) ∙ v.valid.accepted))
