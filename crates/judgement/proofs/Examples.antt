-- Document 01's own example, from its bytes to its four lines, by computation. Assumes nothing.
use Prim.Native.Nat.{ℕ}
use mathlib.Core.Path.{◌≡◌, refl}
use mathlib.Core.List.{List, [], ◌∷◌}
use Rattle.numbers.specs.Sum.{sum}
use Rattle.logarithm.specs.Logarithm.{L}
use Rattle.contexts.specs.Context.{code_of}
use Rattle.contexts.specs.Counts.{N}
use Rattle.contexts.specs.Strings.{total}
use Rattle.estimate.specs.Score.{sumℤ, totalℤ}
use Rattle.estimate.specs.Recursion.{spread, best, joint, tree, estimate}
use Rattle.rows.specs.Members.{gather, members}
use Rattle.replay.specs.Table.{verdict_of}
use Rattle.printing.specs.Text.{ascii, spelled, line_of}
use Rattle.sitting_file.specs.Format as format
use Rattle.sitting_file.specs.Format.{second_group, first_group, header_up_to, symbols_from, body_of}
use Rattle.judgement.specs.Judgement.{sheet_numbers, strings_in, judged, judgement}
use Rattle.judgement.specs.Prints.{lines_text, text_of}

-- "Input, in hex: `02 01 08 08 ..`"
abbrev pub J3_file : List ℕ
J3_file = 2 ∷ 1 ∷ 8 ∷ 8 ∷ 0 ∷ 1 ∷ 0 ∷ 1 ∷ 0 ∷ 1 ∷ 0 ∷ 1 ∷ 0 ∷ 0 ∷ 1 ∷ 0 ∷ 0 ∷ 1 ∷ 0 ∷ 0 ∷ []

pub J3_text : text_of (judgement J3_file sheet_numbers) ≡ ascii "2 1 8 8 3 -80704\n1 1 0 0 4\n2 1 0 3 2\n0 1 1 5 0\n"
unfolding format.judged_number second_group first_group header_up_to symbols_from body_of strings_in judged verdict_of L sum code_of N total sumℤ totalℤ spread best joint tree estimate gather members lines_text text_of ascii spelled line_of
J3_text = refl

-- a file that ends early
pub empty_text : text_of (judgement [] sheet_numbers) ≡ ascii "refused 13\n"
unfolding first_group header_up_to body_of judged text_of ascii spelled line_of
empty_text = refl

-- J5: neither sample has more symbols than the depth
pub short_text : text_of (judgement (2 ∷ 1 ∷ 1 ∷ 1 ∷ 0 ∷ 0 ∷ []) sheet_numbers) ≡ ascii "refused 24\n"
unfolding format.judged_number first_group header_up_to symbols_from body_of strings_in judged verdict_of sum N total text_of ascii spelled line_of
short_text = refl

-- an empty sample
pub no_sample_text : text_of (judgement (2 ∷ 1 ∷ 0 ∷ 1 ∷ 0 ∷ []) sheet_numbers) ≡ ascii "refused 11\n"
unfolding format.judged_number first_group header_up_to symbols_from body_of strings_in judged verdict_of sum N total text_of ascii spelled line_of
no_sample_text = refl
