-- Files and their answers, by computation: document 01's own file, and the cases that its words on refusals leave a reader to settle.
-- Assumes nothing.
use Rattle.std.specs.Prelude.{Ok, Err}
use Prim.Native.Nat.{ℕ, ◌+◌}
use mathlib.Core.Path.{◌≡◌, refl}
use mathlib.Core.List.{List, [], ◌∷◌, map}
use lib.ListN.{replicate}
use Rattle.numbers.specs.Limits.{longest}
use Rattle.sitting_file.specs.Format.{judged_number, second_group, first_group, header_up_to, symbols_from, body_of, read_up_to, read_of, refusal_number, Reading}
use Rattle.sitting_file.specs.Verdict.{shortest}
use Rattle.sitting_file.specs.declared.Refusal.TheVariants.{EndsEarly, NotShortest, OutsideLimits, BytesLeft}

pub record Example : Type 0 where
  pub file : List ℕ
  pub answer : Reading

abbrev accepted : ℕ → ℕ → ℕ → ℕ → List ℕ → Example
accepted A D n m file = record { file = file; answer = Ok (record { alphabet = A; depth = D; first = n; second = m }) }

abbrev ends_early : List ℕ → Example
ends_early file = record { file = file; answer = Err EndsEarly }

abbrev not_shortest : List ℕ → Example
not_shortest file = record { file = file; answer = Err NotShortest }

abbrev outside_limits_lem : List ℕ → Example
outside_limits_lem file = record { file = file; answer = Err OutsideLimits }

abbrev bytes_left : List ℕ → Example
bytes_left file = record { file = file; answer = Err BytesLeft }

abbrev pub examples : List Example
examples =
    -- the program's example, J3
    accepted 2 1 8 8 (0x02 ∷ 0x01 ∷ 0x08 ∷ 0x08 ∷ 0 ∷ 1 ∷ 0 ∷ 1 ∷ 0 ∷ 1 ∷ 0 ∷ 1 ∷ 0 ∷ 0 ∷ 1 ∷ 0 ∷ 0 ∷ 1 ∷ 0 ∷ 0 ∷ [])
    -- the least and the greatest values; 128 symbols, whose number takes two groups
    ∷ accepted 2 0 0 0 (2 ∷ 0 ∷ 0 ∷ 0 ∷ [])
    ∷ accepted 8 6 1 1 (8 ∷ 6 ∷ 1 ∷ 1 ∷ 7 ∷ 0 ∷ [])
    ∷ accepted 2 1 128 0 (2 ∷ 1 ∷ 0x80 ∷ 1 ∷ 0 ∷ replicate 128 1)
    -- 1: a symbol is a number too, and may open a second group
    ∷ ends_early (2 ∷ 0 ∷ 1 ∷ 0 ∷ 0x81 ∷ [])
    ∷ not_shortest (2 ∷ 0 ∷ 1 ∷ 0 ∷ 0x81 ∷ 0 ∷ [])
    ∷ not_shortest (2 ∷ 0 ∷ 1 ∷ 0 ∷ 0x81 ∷ 0x80 ∷ [])
    ∷ outside_limits_lem (2 ∷ 0 ∷ 1 ∷ 0 ∷ 0x81 ∷ 1 ∷ [])
    ∷ outside_limits_lem (2 ∷ 0 ∷ 1 ∷ 0 ∷ 0x81 ∷ 0x7f ∷ [])
    -- 2: the high bit of a second group is judged at that byte, though the file ends there
    ∷ not_shortest (0x80 ∷ 0x80 ∷ [])
    ∷ not_shortest (2 ∷ 1 ∷ 0x80 ∷ 0x80 ∷ [])
    -- 3: a first group alone is not judged by its value
    ∷ ends_early (0xff ∷ [])
    ∷ ends_early (2 ∷ 0 ∷ 1 ∷ 0 ∷ 0xff ∷ [])
    -- 4: of two faults of one number, the lower
    ∷ not_shortest (0x80 ∷ 0 ∷ [])
    -- 5: a value is judged before the rest of the file is asked for
    ∷ outside_limits_lem (1 ∷ [])
    ∷ outside_limits_lem (9 ∷ [])
    ∷ outside_limits_lem (2 ∷ 7 ∷ [])
    ∷ outside_limits_lem (2 ∷ 1 ∷ shortest (longest + 1))
    ∷ outside_limits_lem (2 ∷ 1 ∷ 0 ∷ shortest (longest + 1))
    ∷ ends_early (2 ∷ 1 ∷ shortest longest)
    -- 6: a missing symbol is found where it should stand, after the faults left of it
    ∷ ends_early (2 ∷ 0 ∷ 3 ∷ 0 ∷ 1 ∷ [])
    ∷ outside_limits_lem (2 ∷ 0 ∷ 3 ∷ 0 ∷ 2 ∷ [])
    ∷ not_shortest (2 ∷ 0 ∷ 3 ∷ 0 ∷ 0x80 ∷ 0 ∷ [])
    -- 7: bytes after the last symbol count once every symbol is sound, and are not read as numbers
    ∷ bytes_left (2 ∷ 0 ∷ 1 ∷ 0 ∷ 1 ∷ 0 ∷ [])
    ∷ bytes_left (2 ∷ 0 ∷ 0 ∷ 0 ∷ 0x80 ∷ 0x80 ∷ [])
    ∷ outside_limits_lem (2 ∷ 0 ∷ 1 ∷ 0 ∷ 2 ∷ 0 ∷ [])
    -- 8: a number has at most two groups, so none is above 16,383
    ∷ outside_limits_lem (2 ∷ 0 ∷ 0xff ∷ 0x7f ∷ [])
    ∷ not_shortest (2 ∷ 0 ∷ 0xff ∷ 0xff ∷ 0x7f ∷ [])
    -- 9: no byte at all
    ∷ ends_early []
    ∷ []

pub examples_right : map (λ (e : Example). read_of e.file) examples ≡ map (λ (e : Example). e.answer) examples
unfolding shortest judged_number second_group first_group header_up_to symbols_from body_of
examples_right = refl

-- a reader whose limit is 127 refuses the file of 128 symbols
pub old_limit_right : read_up_to 127 (2 ∷ 1 ∷ 0x80 ∷ 1 ∷ 0 ∷ replicate 128 1) ≡ Err OutsideLimits
unfolding judged_number second_group first_group header_up_to body_of
old_limit_right = refl

-- document 01's numbers of the four refusals
pub numbers_right : map refusal_number (EndsEarly ∷ NotShortest ∷ OutsideLimits ∷ BytesLeft ∷ []) ≡ 13 ∷ 14 ∷ 15 ∷ 16 ∷ []
numbers_right = refl
