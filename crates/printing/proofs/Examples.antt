-- Texts that can be read beside document 01. Assumes nothing.
use Prim.Native.Nat.{ℕ}
use mathlib.Core.Path.{◌≡◌, refl}
use mathlib.Core.List.{List, [], ◌∷◌}
use lib.IntN.{negsuc}
use Rattle.printing.specs.Text.{ascii, spelled, decimal, signed, line_of, rows_text, report_text, refusal_text}

-- J3's sheet: three rows of eleven numbers
abbrev J3_sheet : List ℕ
J3_sheet =
    1 ∷ 1 ∷ 0 ∷ 0 ∷ 4 ∷ 0 ∷ 0 ∷ 0 ∷ 0 ∷ 0 ∷ 0
    ∷ 2 ∷ 1 ∷ 0 ∷ 3 ∷ 2 ∷ 0 ∷ 0 ∷ 0 ∷ 0 ∷ 0 ∷ 0
    ∷ 0 ∷ 1 ∷ 1 ∷ 5 ∷ 0 ∷ 0 ∷ 0 ∷ 0 ∷ 0 ∷ 0 ∷ 0 ∷ []

-- J3's four lines
pub J3_printed : report_text 2 1 8 8 3 (negsuc 80703) J3_sheet ≡ ascii "2 1 8 8 3 -80704\n1 1 0 0 4\n2 1 0 3 2\n0 1 1 5 0\n"
unfolding ascii spelled line_of rows_text
J3_printed = refl

pub refusal_printed : refusal_text 13 ≡ ascii "refused 13\n"
unfolding ascii spelled line_of
refusal_printed = refl

pub zero_printed : decimal 0 ≡ ascii "0"
unfolding ascii spelled
zero_printed = refl

pub largest_printed : decimal 18446744073709551615 ≡ ascii "18446744073709551615"
unfolding ascii spelled
largest_printed = refl

pub lowest_printed : signed (negsuc 9223372036854775807) ≡ ascii "-9223372036854775808"
unfolding ascii spelled
lowest_printed = refl
