-- A file and its first bytes, as many as a program reads, differ in what is cut off alone: header and samples end within them. Assumes nothing.
use Rattle.std.specs.Prelude.{Ok, Err}
use Prim.Native.Nat.{ℕ, zero, suc, ◌+◌, ◌-◌, ◌≤◌}
use native.Mathlib.Omega.{arith}
use mathlib.Core.Path.{◌≡◌, refl, sym, ap, ◌∙◌}
use mathlib.Core.Bool.{Bool, true, false, cond}
use mathlib.Core.List.{List, [], ◌∷◌}
use lib.Dec.{ltb}
use lib.ListN.{length, take, drop, length-drop}
use lib.Seq.{take-take, drop-drop, length-take-le}
use Rattle.replay.specs.Table.{refused, answered, verdict_of}
use Rattle.sitting_file.specs.Format.{Heading, header_of}
use Rattle.sitting_file.specs.Input.{input_bytes}
use Rattle.sitting_file.specs.Samples.{longest_file}
use Rattle.sitting_file.specs.declared.Shape.{Shape}
use Rattle.sitting_file.proofs.LongInput.{same_header}
use Rattle.sitting_file.proofs.Stages.{header_read}
use Rattle.salvage.specs.Salvage.{first_bytes, second_bytes, cut_off, Saved, saved_from, saved_of, salvage_of}
use Rattle.salvage.specs.Saving.{cut_more, FirstBytesSave}
use Rattle.salvage.proofs.Parts.{saved_same}

-- bytes that end before a cut are as they were
before_cut : (n from bytes : ℕ) (l : List ℕ) → from + n ≤ bytes → take n (drop from (take bytes l)) ≡ take n (drop from l)
before_cut n zero bytes l h = take-take n bytes l (omega arith)
before_cut n (suc from) zero l h = absurd (omega arith)
before_cut n (suc from) (suc bytes) [] h = refl
before_cut n (suc from) (suc bytes) (x ∷ l) h = before_cut n from bytes l (omega arith)

module _ (damaged : List ℕ) (bytes : ℕ) (long : longest_file ≤ bytes) (inside : bytes ≤ length damaged) where
  abbrev part : List ℕ
  part = take bytes damaged

  abbrev beyond : ℕ
  beyond = length damaged - bytes

  module _ (shape : Shape) (at : ℕ) (whole : header_of damaged ≡ Ok (shape, at)) where
    ends : at + shape.first + shape.second ≤ bytes
    ends = let h = header_read damaged shape at whole in omega (arith, h.place, h.limits.first_high, h.limits.second_high, long)

    first_same : first_bytes shape (drop at part) ≡ first_bytes shape (drop at damaged)
    first_same = before_cut shape.first at bytes damaged (omega (arith, ends))

    second_same : second_bytes shape (drop at part) ≡ second_bytes shape (drop at damaged)
    second_same =
        ap (take shape.second) (drop-drop shape.first at part) ∙ before_cut shape.second (at + shape.first) bytes damaged ends ∙ ap (take shape.second) (sym (drop-drop shape.first at damaged))

    cut_more_lem : cut_off shape (drop at part) + beyond ≡ cut_off shape (drop at damaged)
    cut_more_lem =
        let k = shape.first + shape.second in
        omega (arith, ends, inside, length-drop k (drop at part), length-drop at part, length-take-le bytes damaged inside, length-drop k (drop at damaged), length-drop at damaged)

    -- what is saved of the whole, by the bytes of the part
    abbrev more : Saved
    more = saved_from shape (first_bytes shape (drop at part)) (second_bytes shape (drop at part)) (cut_off shape (drop at part) + beyond)

    saved_more : saved_of shape (drop at damaged) ≡ more
    saved_more = saved_same shape (drop at damaged) _ _ _ (sym first_same) (sym second_same) (sym cut_more_lem)

    answer_more : (room : ℕ) → salvage_of (Ok (shape, at)) damaged room ≡ cut_more beyond (salvage_of (Ok (shape, at)) part room)
    unfolding salvage_of verdict_of
    answer_more room = ap (λ (s : Saved). cond (ltb room (length s.file)) (refused 19) (answered s)) saved_more ∙ by (ltb room (length (saved_of shape (drop at part)).file))
      where
        by : (t : Bool) → cond t (refused 19) (answered more) ≡ cut_more beyond (cond t (refused 19) (answered (saved_of shape (drop at part))))
        by true = refl
        by false = refl

  first_save : (room : ℕ) → salvage_of (header_of damaged) damaged room ≡ cut_more beyond (salvage_of (header_of part) part room)
  unfolding salvage_of
  first_save room = by (header_of damaged) refl ∙ ap (λ (h : Heading). cut_more beyond (salvage_of h part room)) (same_header damaged bytes inside (omega (arith, long)))
    where
      by : (h : Heading) → header_of damaged ≡ h → salvage_of (header_of damaged) damaged room ≡ cut_more beyond (salvage_of (header_of damaged) part room)
      by (Err why) e = rw e
      by (Ok (shape, at)) e = ap (λ (h : Heading). salvage_of h damaged room) e ∙ answer_more shape at e room ∙ ap (λ (h : Heading). cut_more beyond (salvage_of h part room)) (sym e)

-- THEOREM. A file and its first bytes differ in what is cut off alone
pub first_bytes_save : FirstBytesSave
first_bytes_save damaged room h = first_save damaged input_bytes (omega arith) h room
