-- Files by computation: document 01's example, lengths on both sides of a group, and the order of the two refusals. Assumes nothing.
use Prim.Native.Nat.{ℕ}
use mathlib.Core.Path.{◌≡◌, refl}
use mathlib.Core.List.{List, [], ◌∷◌, ◌++◌}
use lib.ListN.{length, replicate}
use Rattle.replay.specs.Table.{Outcome, refused, answered, verdict_of}
use Rattle.sitting_file.specs.Verdict.{shortest}
use Rattle.writing.specs.Writing.{file_of, good_values, writing_lines}

-- the samples of J3 and its input, "02 01 08 08 .."
abbrev learner : List ℕ
learner = 0 ∷ 1 ∷ 0 ∷ 1 ∷ 0 ∷ 1 ∷ 0 ∷ 1 ∷ []

abbrev reference : List ℕ
reference = 0 ∷ 0 ∷ 1 ∷ 0 ∷ 0 ∷ 1 ∷ 0 ∷ 0 ∷ []

pub J3_file : file_of 2 1 learner reference ≡ 2 ∷ 1 ∷ 8 ∷ 8 ∷ 0 ∷ 1 ∷ 0 ∷ 1 ∷ 0 ∷ 1 ∷ 0 ∷ 1 ∷ 0 ∷ 0 ∷ 1 ∷ 0 ∷ 0 ∷ 1 ∷ 0 ∷ 0 ∷ []
unfolding shortest
J3_file = refl

-- 127 has one group, 128 two; the shortest file has four bytes
pub one_group : file_of 8 6 [] (replicate 127 7) ≡ (8 ∷ 6 ∷ 0 ∷ 127 ∷ []) ++ replicate 127 7
unfolding shortest
one_group = refl

pub two_groups_lem : file_of 8 6 (replicate 128 7) [] ≡ (8 ∷ 6 ∷ 128 ∷ 1 ∷ 0 ∷ []) ++ replicate 128 7
unfolding shortest
two_groups_lem = refl

pub shortest_file : file_of 2 0 [] [] ≡ 2 ∷ 0 ∷ 0 ∷ 0 ∷ []
unfolding shortest
shortest_file = refl

-- what is answered of two samples with so many bytes lent
abbrev answer_to : ℕ → ℕ → List ℕ → List ℕ → ℕ → Outcome ℕ
answer_to A D xs ys room = verdict_of (writing_lines A D xs ys room) (length (file_of A D xs ys))

pub just_enough : answer_to 2 1 learner reference 20 ≡ answered 20
unfolding verdict_of good_values shortest
just_enough = refl

pub one_byte_short : answer_to 2 1 learner reference 19 ≡ refused 19
unfolding verdict_of good_values shortest
one_byte_short = refl

-- "19, after 15": no byte is lent, and the learner's 1 is not below 1; a depth of 7; a symbol 2 of the second
pub bad_alphabet : answer_to 1 1 learner reference 0 ≡ refused 15
unfolding verdict_of good_values shortest
bad_alphabet = refl

pub bad_depth : answer_to 2 7 learner reference 0 ≡ refused 15
unfolding verdict_of good_values shortest
bad_depth = refl

pub bad_symbol : answer_to 2 1 learner (2 ∷ []) 0 ≡ refused 15
unfolding verdict_of good_values shortest
bad_symbol = refl
