-- Damaged files by computation: one damage each, what is saved of it and what is told. Assumes nothing.
use Prim.Native.Nat.{ℕ, ◌+◌}
use mathlib.Core.Path.{◌≡◌, refl}
use mathlib.Core.List.{List, [], ◌∷◌, ◌++◌, map}
use lib.ListN.{replicate}
use Rattle.numbers.specs.Limits.{longest}
use Rattle.replay.specs.Table.{Outcome, refused, answered, verdict_of}
use Rattle.sitting_file.specs.Format.{judged_number, second_group, first_group, header_up_to, header_of}
use Rattle.sitting_file.specs.Verdict.{shortest}
use Rattle.salvage.specs.Salvage.{kept_bytes, Saved, salvage_of}

-- the losses: missing and dropped of the first, of the second, cut off
abbrev saved : List ℕ → ℕ → ℕ → ℕ → ℕ → ℕ → Outcome Saved
saved file a b c d e = answered (record { file = file; lost = record { first = record { missing = a; dropped = b }; second = record { missing = c; dropped = d }; cut = e } })

pub record Example : Type 0 where
  pub damaged : List ℕ
  pub room : ℕ
  pub answer : Outcome Saved

abbrev of : List ℕ → ℕ → Outcome Saved → Example
of damaged room answer = record { damaged = damaged; room = room; answer = answer }

abbrev pub examples : List Example
examples =
    -- a sound file comes out the same
    of (2 ∷ 1 ∷ 3 ∷ 2 ∷ 0 ∷ 1 ∷ 0 ∷ 1 ∷ 1 ∷ []) 9 (saved (2 ∷ 1 ∷ 3 ∷ 2 ∷ 0 ∷ 1 ∷ 0 ∷ 1 ∷ 1 ∷ []) 0 0 0 0 0)
    -- cut within the second sample, then within the first, then after the header
    ∷ of (2 ∷ 1 ∷ 3 ∷ 2 ∷ 0 ∷ 1 ∷ 0 ∷ 1 ∷ []) 9 (saved (2 ∷ 1 ∷ 3 ∷ 1 ∷ 0 ∷ 1 ∷ 0 ∷ 1 ∷ []) 0 0 1 0 0)
    ∷ of (2 ∷ 1 ∷ 3 ∷ 2 ∷ 0 ∷ 1 ∷ []) 9 (saved (2 ∷ 1 ∷ 2 ∷ 0 ∷ 0 ∷ 1 ∷ []) 1 0 2 0 0)
    ∷ of (2 ∷ 1 ∷ 3 ∷ 2 ∷ []) 9 (saved (2 ∷ 1 ∷ 0 ∷ 0 ∷ []) 3 0 2 0 0)
    -- a byte equal to A, and one with the high bit set: good bytes behind them are dropped too, and the second sample begins where it did
    ∷ of (2 ∷ 1 ∷ 3 ∷ 2 ∷ 0 ∷ 2 ∷ 0 ∷ 1 ∷ 1 ∷ []) 9 (saved (2 ∷ 1 ∷ 1 ∷ 2 ∷ 0 ∷ 1 ∷ 1 ∷ []) 0 2 0 0 0)
    ∷ of (2 ∷ 1 ∷ 3 ∷ 2 ∷ 0 ∷ 1 ∷ 0 ∷ 0x80 ∷ 1 ∷ []) 9 (saved (2 ∷ 1 ∷ 3 ∷ 0 ∷ 0 ∷ 1 ∷ 0 ∷ []) 0 0 0 2 0)
    -- dropped and missing of one sample; dropped bytes are not cut off
    ∷ of (2 ∷ 1 ∷ 3 ∷ 3 ∷ 0 ∷ 1 ∷ 0 ∷ 7 ∷ 1 ∷ []) 9 (saved (2 ∷ 1 ∷ 3 ∷ 0 ∷ 0 ∷ 1 ∷ 0 ∷ []) 0 0 1 2 0)
    -- bytes after both samples, also where there are no symbols
    ∷ of (2 ∷ 1 ∷ 1 ∷ 1 ∷ 0 ∷ 1 ∷ 0 ∷ 0xff ∷ []) 6 (saved (2 ∷ 1 ∷ 1 ∷ 1 ∷ 0 ∷ 1 ∷ []) 0 0 0 0 2)
    ∷ of (8 ∷ 6 ∷ 0 ∷ 0 ∷ 9 ∷ []) 4 (saved (8 ∷ 6 ∷ 0 ∷ 0 ∷ []) 0 0 0 0 1)
    -- a length of two groups that is one when written anew
    ∷ of (2 ∷ 1 ∷ 0x80 ∷ 1 ∷ 0 ∷ replicate 127 1 ++ (5 ∷ [])) 131 (saved (2 ∷ 1 ∷ 127 ∷ 0 ∷ replicate 127 1) 0 1 0 0 0)
    -- 19 by the file to be written, not by the damaged one
    ∷ of (2 ∷ 1 ∷ 3 ∷ 2 ∷ 0 ∷ 1 ∷ []) 6 (saved (2 ∷ 1 ∷ 2 ∷ 0 ∷ 0 ∷ 1 ∷ []) 1 0 2 0 0)
    ∷ of (2 ∷ 1 ∷ 3 ∷ 2 ∷ 0 ∷ 1 ∷ []) 5 (refused 19)
    -- the header's faults, whatever room there is
    ∷ of [] 0 (refused 13)
    ∷ of (2 ∷ 1 ∷ 3 ∷ []) 0 (refused 13)
    ∷ of (2 ∷ 1 ∷ 0x83 ∷ 0 ∷ 2 ∷ 0 ∷ []) 9 (refused 14)
    ∷ of (9 ∷ 1 ∷ 3 ∷ 2 ∷ []) 9 (refused 15)
    ∷ of (2 ∷ 1 ∷ (shortest (longest + 1) ++ (2 ∷ []))) 9 (refused 15)
    ∷ []

pub examples_right : map (λ (e : Example). salvage_of (header_of e.damaged) e.damaged e.room) examples ≡ map (λ (e : Example). e.answer) examples
unfolding shortest judged_number second_group first_group header_up_to kept_bytes salvage_of verdict_of
examples_right = refl
