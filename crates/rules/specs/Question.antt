-- The chart question: its answer and its refusals (document 01, "Chart question"). Assumes nothing.
use Rattle.std.specs.Prelude.{ℕ, Bool, not, ◌&&◌, ◌||◌, List, [], ◌∷◌, eqb, leb, ltb}
use Rattle.contexts.specs.Context.{is_context, code_of, decoded}
use Rattle.contexts.specs.Sitting.{Progress, sat}
use Rattle.chart.specs.Answer.{chart_of}
use Rattle.chart.specs.declared.Chart.{Chart}
use Rattle.replay.specs.Room.{Opening}
use Rattle.replay.specs.Table.{Line, ◌when◌}

-- the code is that of a string of that length over the alphabet
abbrev pub is_code : ℕ → ℕ → ℕ → Bool
is_code A len code = is_context A len (decoded len code) && eqb (code_of (decoded len code)) code

-- "symbol not below A, context longer than D, or its code not a string of that length over the alphabet"
abbrev pub not_asked : Opening → ℕ → ℕ → ℕ → Bool
not_asked o len code a = leb o.symbols a || (ltb o.depth len || not (is_code o.symbols len code))

-- the refusals of a chart question at an open desk
abbrev pub chart_lines : Opening → ℕ → ℕ → ℕ → List Line
chart_lines o len code a = 8 when not_asked o len code a ∷ []

-- what it answers
abbrev pub charted : Opening → Progress → ℕ → ℕ → ℕ → Chart
charted o p len code a = chart_of (sat o.symbols o.depth o.weight p) (decoded len code) a
