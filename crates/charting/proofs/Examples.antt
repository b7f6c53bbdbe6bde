-- What some lengths and codes name, worked out. Assumes nothing.
use mathlib.Core.Path.{◌≡◌, refl}
use Rattle.contexts.specs.Context.{is_context, code_of, decoded}
use Rattle.contexts.specs.Keys.{digits}
use Rattle.std.specs.Prelude.{Some, None}
use Rattle.charting.specs.Naming.{named}

-- the empty context of desk 0
pub names_empty : named 2 0 0 0 ≡ Some 0
unfolding named decoded is_context code_of digits
names_empty = refl

-- of two symbols, the most recent 1 and the older 0, at desk 3: 3 · 8^7 + 1 · 8^6 + 0 · 8^5 + 2
pub names_two : named 2 3 2 1 ≡ Some 6553602
unfolding named decoded is_context code_of digits
names_two = refl

-- the digit 2 is no symbol where A is 2
pub outside_alphabet : named 2 0 1 2 ≡ None
unfolding named decoded is_context code_of digits
outside_alphabet = refl

-- 8^length is one too many, also where A is 8
pub past_the_length : named 8 0 1 8 ≡ None
unfolding named decoded is_context code_of digits
past_the_length = refl
