-- Document 01, "Counts and score": what N(s,a) is.
-- A sample is a list of symbols, oldest first; its past is the same list, most recent first.
-- Only places with at least `from` symbols before them are counted: D in a sitting (document 02, E3). Assumes nothing.
use Rattle.std.specs.Prelude.{ℕ, zero, suc, ◌+◌, ◌-◌, Bool, ◌&&◌, List, [], ◌∷◌, length, take, drop, get_or, eqb, ltb, leb}
use Rattle.numbers.specs.Sum.{one, sum}
use Rattle.contexts.specs.Context.{eqs, begins}

-- how many of the places 1 to n pass the test
abbrev pub places : (ℕ → Bool) → ℕ → ℕ
places f zero = 0
places f (suc n) = places f n + one (f (suc n))

-- place i of the sample w is past the first `from` (and the first |s|), the |s| symbols before it are s, and the symbol at it is a
abbrev pub follows : ℕ → List ℕ → List ℕ → ℕ → ℕ → Bool
follows from w s a i =
    ltb from i && (ltb (length s) i && (eqs (take (length s) (drop (i - 1 - length s) w)) s && eqb (get_or w (i - 1) 0) a))

-- N(s,a) counts "the places i .. to the sample's end where the |s| symbols before place i are s and the symbol at i is a", "only places from
-- D+1 on": w and s oldest first
abbrev pub N_placed : ℕ → List ℕ → List ℕ → ℕ → ℕ
N_placed from w s a = places (follows from w s a) (length w)

-- the same by recursion over the past, past and s most recent first: the newest symbol adds one where its place is counted, s stands before it, and it is a
unfoldable pub N : ℕ → List ℕ → List ℕ → ℕ → ℕ
N from [] s a = 0
N from (x ∷ past) s a = N from past s a + one (leb from (length past) && (begins s past && eqb x a))

-- "N(s) is the sum over a"
abbrev pub N_total : ℕ → ℕ → List ℕ → List ℕ → ℕ
N_total A from past s = sum A (N from past s)

-- s has been seen
abbrev pub seen : ℕ → ℕ → List ℕ → List ℕ → Bool
seen A from past s = ltb 0 (N_total A from past s)
