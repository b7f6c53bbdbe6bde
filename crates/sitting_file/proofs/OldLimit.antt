-- A reader of a smaller sample limit answers as one of a larger, or 15. Assumes nothing.
use Rattle.std.specs.Prelude.{Ok, Err}
use Prim.Native.Nat.{ℕ, ◌+◌, ◌<◌, ◌≤◌}
use mathlib.Core.Path.{◌≡◌, refl, sym, ap, ◌∙◌}
use mathlib.Core.Logic.{◌⊎◌, inl, inr}
use mathlib.Core.List.{List}
use native.Mathlib.Decide.{dec_le}
use native.Mathlib.Omega.{arith}
use lib.ListN.{drop}
use Rattle.sitting_file.specs.Format.{number_at, header_up_to, body_of, read_up_to, Heading}
use Rattle.sitting_file.specs.OldLimit.{OldLimit}
use Rattle.sitting_file.specs.declared.Shape.{Shape}
use Rattle.sitting_file.specs.declared.Refusal.TheVariants.{OutsideLimits}
use Rattle.sitting_file.proofs.Places.{above_high, inside}
use Rattle.sitting_file.proofs.Groups.{number_found, judged_again}
use Rattle.sitting_file.proofs.Stages.{first_refused, second_refused, header_whole, FourFound, four_found}
use Rattle.sitting_file.proofs.AcceptedFile.{never, announced}

module _ (file : List ℕ) where
  -- ---- a number that was found under one limit, under another

  kept : (at low high other v next : ℕ) → number_at file at low high ≡ Ok (v, next) → v ≤ other → number_at file at low other ≡ Ok (v, next)
  kept at low high other v next e h = judged_again low high other at v next (drop at file) e ∙ inside low other v next (number_found low high at v next file e).low_kept h

  passed : (at low high other v next : ℕ) → number_at file at low high ≡ Ok (v, next) → other < v → number_at file at low other ≡ Err OutsideLimits
  passed at low high other v next e h = judged_again low high other at v next (drop at file) e ∙ above_high low other v next (number_found low high at v next file e).low_kept h

  -- ---- the header

  module _ (limit other : ℕ) (shape : Shape) (at : ℕ) (e : header_up_to limit file ≡ Ok (shape, at)) where
    numbers : FourFound limit file shape at
    numbers = four_found limit file shape at e

    header_kept : shape.first ≤ other → shape.second ≤ other → header_up_to other file ≡ Ok (shape, at)
    header_kept h k =
        let f = numbers in
        header_whole other file _ _ f.alphabet _ _ f.depth _ _ (kept _ 0 limit other _ _ f.first h) _ _ (kept _ 0 limit other _ _ f.second k)

    header_refused : (other < shape.first) ⊎ (other < shape.second) → header_up_to other file ≡ Err OutsideLimits
    header_refused far =
        let f = numbers in
        elim (dec_le shape.first other) [
          | yes h ↦ second_refused other file _ _ f.alphabet _ _ f.depth _ _ (kept _ 0 limit other _ _ f.first h) OutsideLimits (passed _ 0 limit other _ _ f.second (second_far h far))
          | no h ↦ first_refused other file _ _ f.alphabet _ _ f.depth OutsideLimits (passed _ 0 limit other _ _ f.first (omega arith))
        ]
      where
        second_far : shape.first ≤ other → (other < shape.first) ⊎ (other < shape.second) → other < shape.second
        second_far h (inl k) = absurd (omega arith)
        second_far h (inr k) = k

    first_within : shape.first ≤ limit
    first_within = (number_found 0 limit _ _ _ file numbers.first).high_kept

    second_within : shape.second ≤ limit
    second_within = (number_found 0 limit _ _ _ file numbers.second).high_kept

  -- ---- the whole file

  -- the header of a file that is accepted
  head_of : (limit : ℕ) (shape : Shape) → read_up_to limit file ≡ Ok shape → (at : ℕ) × (header_up_to limit file ≡ Ok (shape, at))
  unfolding body_of
  head_of limit shape e = go (header_up_to limit file) refl e
    where
      go : (h : Heading) → header_up_to limit file ≡ h → body_of file h ≡ Ok shape → (at : ℕ) × (header_up_to limit file ≡ Ok (shape, at))
      go (Err why) q e = never e
      go (Ok (read, at)) q e = (at, q ∙ ap (λ (s : Shape). Ok (s, at)) (announced file read shape (read.first + read.second) at e))

  -- accepted under one limit, and so under another that both samples keep
  accepted_too : (limit other : ℕ) (shape : Shape) → read_up_to limit file ≡ Ok shape → shape.first ≤ other → shape.second ≤ other → read_up_to other file ≡ Ok shape
  accepted_too limit other shape e h k =
      let w = head_of limit shape e in
      ap (body_of file) (header_kept limit other shape w.0 w.1 h k ∙ sym w.1) ∙ e

  old_refuses : (old new : ℕ) (shape : Shape) → read_up_to new file ≡ Ok shape → (old < shape.first) ⊎ (old < shape.second) → read_up_to old file ≡ Err OutsideLimits
  unfolding body_of
  old_refuses old new shape e far =
      let w = head_of new shape e in
      ap (body_of file) (header_refused new old shape w.0 w.1 far)

  old_within : (old new : ℕ) (shape : Shape) → old ≤ new → read_up_to old file ≡ Ok shape → read_up_to new file ≡ Ok shape
  old_within old new shape h e =
      let w = head_of old shape e in
      let n = first_within old new shape w.0 w.1 in
      let m = second_within old new shape w.0 w.1 in
      accepted_too old new shape e (omega arith) (omega arith)

-- THEOREM. "A reader of the old limit refuses a longer file with 15 and never cuts it"
pub old_limit : OldLimit
old_limit old new h file shape = record { same = accepted_too file new old shape; refuses = old_refuses file old new shape; never_cuts = old_within file old new shape h }
