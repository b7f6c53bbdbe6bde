-- Contexts. Document 01 writes a context oldest first; here it is the list of its symbols, MOST RECENT FIRST, so that the older symbols follow.
-- Assumes nothing.
use Rattle.std.specs.Prelude.{ℕ, zero, suc, ◌+◌, ◌-◌, ◌*◌, ◌/◌, ◌%◌, Bool, true, false, ◌&&◌, ◌||◌, List, [], ◌∷◌, length, take, eqb, ltb}

-- at most d symbols, each below A
unfoldable pub is_context : ℕ → ℕ → List ℕ → Bool
is_context A d [] = true
is_context A zero (a ∷ s) = false
is_context A (suc d) (a ∷ s) = ltb a A && is_context A d s

-- a context less its oldest symbol; the empty context is its own
abbrev pub parent_of : List ℕ → List ℕ
parent_of s = take (length s - 1) s

-- two strings are the same
abbrev pub eqs : List ℕ → List ℕ → Bool
eqs [] [] = true
eqs [] (b ∷ t) = false
eqs (a ∷ s) [] = false
eqs (a ∷ s) (b ∷ t) = eqb a b && eqs s t

-- the context s begins t: s is a suffix of t as document 01 writes the two
abbrev pub begins : List ℕ → List ℕ → Bool
begins [] t = true
begins (a ∷ s) [] = false
begins (a ∷ s) (b ∷ t) = eqb a b && begins s t

-- "contexts compared from the most recent symbol backwards, the smaller symbol first, the shorter first where one begins the other"
abbrev pub precedes : List ℕ → List ℕ → Bool
precedes [] [] = false
precedes [] (b ∷ t) = true
precedes (a ∷ s) [] = false
precedes (a ∷ s) (b ∷ t) = ltb a b || (eqb a b && precedes s t)

-- "Code is the sum of symbol times 8^j, where j = 0 for the most recent symbol."
unfoldable pub code_of : List ℕ → ℕ
code_of [] = 0
code_of (a ∷ s) = a + 8 * code_of s

-- the context of a length that has a code
unfoldable pub decoded : ℕ → ℕ → List ℕ
decoded zero c = []
decoded (suc l) c = c % 8 ∷ decoded l (c / 8)
