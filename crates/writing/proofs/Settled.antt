-- What the promise of a writing settles: the answer, also that of the code, and every byte. Assumes nothing.
use Prim.Native.Nat.{ℕ}
use Rattle.std.specs.Prelude.{Ok, Err}
use native.Mathlib.Omega.{arith}
use mathlib.Core.Path.{◌≡◌, refl, sym, ap, ◌∙◌}
use mathlib.Core.List.{List}
use Rattle.replay.specs.Table.{Outcome, refused, answered}
use Rattle.replay.proofs.Tables.{no_refusal, number_same, answer_same}
use Rattle.writing.specs.Writing.{Writing, refusal_number, writing_outcome, WritesFile}
use Rattle.writing.specs.declared.Refusal.{Refusal}
use Rattle.writing.specs.declared.Refusal.TheVariants.{BadValues, BufferShort}

module _ (A D : ℕ) (xs ys before : List ℕ) where
  -- THEOREM. Two results that one promise allows are equal
  pub writing_settled : (o p : Outcome ℕ) (x y : List ℕ) → WritesFile A D xs ys before o x → WritesFile A D xs ys before p y → (o ≡ p) × (x ≡ y)
  writing_settled o p x y v w = (same, go o refl)
    where
      same : o ≡ p
      same = v.answers ∙ sym w.answers

      go : (q : Outcome ℕ) → o ≡ q → x ≡ y
      go (answered n) e = v.file_written n e ∙ sym (w.file_written n (sym same ∙ e))
      go (refused n) e = v.refused_stays n e ∙ sym (w.refused_stays n (sym same ∙ e))

-- no two refusals have one number
one_refusal : (v w : Refusal) → refusal_number v ≡ refusal_number w → v ≡ w
one_refusal BadValues BadValues e = refl
one_refusal BufferShort BufferShort e = refl
one_refusal BadValues BufferShort e = absurd (omega (arith, e))
one_refusal BufferShort BadValues e = absurd (omega (arith, e))

-- THEOREM. No two answers of the code say the same, so the promise settles the code's answer too
pub one_writing : (x y : Writing) → writing_outcome x ≡ writing_outcome y → x ≡ y
one_writing (Ok n) (Ok m) e = ap Ok (answer_same e)
one_writing (Err v) (Err w) e = ap Err (one_refusal v w (number_same e))
one_writing (Ok n) (Err w) e = no_refusal refl e
one_writing (Err v) (Ok m) e = no_refusal e refl
