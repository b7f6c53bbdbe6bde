-- Decisions and the numbers that are kept for them. Assumes nothing.
use Rattle.std.specs.Prelude.{ℕ, ◌+◌, ◌*◌, ◌/◌, ◌%◌, cond, eqb}
use Rattle.numbers.specs.Sum.{one}
use Rattle.weighing.specs.declared.Choice.{Choice}
use Rattle.weighing.specs.declared.Choice.TheVariants.{Shared, Separate, Split}
use Rattle.weighing.specs.declared.Mark.{Mark}

-- a shared leaf, two separate trees, a split of both: 0, 1 or 2
abbrev pub number_of_choice : Choice → ℕ
number_of_choice Shared = 0
number_of_choice Separate = 1
number_of_choice Split = 2

-- 3 more where the first's own tree splits, 6 more where the second's does
abbrev pub mark_number : Mark → ℕ
mark_number m = number_of_choice m.joint + 3 * one m.first + 6 * one m.second

-- a number read back
abbrev pub choice_in : ℕ → Choice
choice_in n = cond (eqb (n % 3) 0) Shared (cond (eqb (n % 3) 1) Separate Split)

abbrev pub mark_in : ℕ → Mark
mark_in n = record {
  joint = choice_in n;
  first = eqb (n / 3 % 2) 1;
  second = eqb (n / 6) 1;
}
