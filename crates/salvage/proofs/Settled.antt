-- What the promise of a salvage settles: the answer, also that of the code, and every byte. Assumes nothing.
use Rattle.std.specs.Prelude.{Ok, Err}
use Prim.Native.Nat.{ℕ}
use mathlib.Core.Path.{◌≡◌, refl, sym, ap, ap₂, ◌∙◌}
use mathlib.Core.Bool.{cond}
use mathlib.Core.List.{List}
use lib.Dec.{eqb}
use lib.ListN.{length}
use lib.Seq.{length-take-le}
use Rattle.replay.specs.Table.{Outcome, refused, answered}
use Rattle.replay.proofs.Tables.{no_refusal, number_same, answer_same}
use Rattle.sitting_file.specs.declared.Refusal.TheVariants.{EndsEarly, NotShortest, OutsideLimits, BytesLeft}
use Rattle.salvage.specs.Salvage.{Salvaging, Saved, refusal_number, salvage_outcome, Within, Salvages}
use Rattle.salvage.specs.declared.Refusal.{Refusal}
use Rattle.salvage.specs.declared.Refusal.TheVariants.{Header, BufferShort}
use Rattle.salvage.specs.declared.Lost.{Lost}

module _ (damaged before : List ℕ) where
  -- THEOREM. Two results that one promise allows are equal
  pub salvage_settled : (o p : Outcome Saved) (x y : List ℕ) → Salvages damaged before o x → Salvages damaged before p y → (o ≡ p) × (x ≡ y)
  salvage_settled o p x y v w = (same, go o refl)
    where
      same : o ≡ p
      same = v.answers ∙ sym w.answers

      go : (q : Outcome Saved) → o ≡ q → x ≡ y
      go (answered s) e = v.file_written s e ∙ sym (w.file_written s (sym same ∙ e))
      go (refused n) e = v.refused_stays n e ∙ sym (w.refused_stays n (sym same ∙ e))

-- a refusal from its number
unfoldable refusal_by : ℕ → Refusal
refusal_by n = cond (eqb n 13) (Header EndsEarly) (cond (eqb n 14) (Header NotShortest) (cond (eqb n 15) (Header OutsideLimits) (cond (eqb n 16) (Header BytesLeft) BufferShort)))

back : (why : Refusal) → refusal_by (refusal_number why) ≡ why
unfolding refusal_by
back (Header EndsEarly) = refl
back (Header NotShortest) = refl
back (Header OutsideLimits) = refl
back (Header BytesLeft) = refl
back BufferShort = refl

-- THEOREM. No two answers of the code say the same beside the bytes left, so the promise settles the code's answer too
pub one_salvage : (x y : Salvaging) (after : List ℕ) → Within x after → Within y after → salvage_outcome x after ≡ salvage_outcome y after → x ≡ y
one_salvage (Ok done) (Ok other) after v w e =
    let same = answer_same e in
    let size : done.size ≡ other.size = sym (length-take-le done.size after v) ∙ ap (λ (s : Saved). length s.file) same ∙ length-take-le other.size after w in
    ap₂ (λ (k : ℕ) (l : Lost). Ok (record { size = k; lost = l })) size (ap (λ (s : Saved). s.lost) same)
one_salvage (Err v) (Err w) after _ _ e = ap Err (sym (back v) ∙ ap refusal_by (number_same e) ∙ back w)
one_salvage (Ok done) (Err w) after _ _ e = no_refusal refl e
one_salvage (Err v) (Ok done) after _ _ e = no_refusal e refl
