-- Tests of many: of the numbers below a bound, and of a list's elements. Assumes nothing.
use Rattle.std.specs.Prelude.{ℕ, zero, suc, Bool, true, ◌&&◌, List, [], ◌∷◌}

-- every number below n passes
unfoldable pub every : ℕ → (ℕ → Bool) → Bool
every zero f = true
every (suc n) f = every n f && f n

-- every element of a list passes
unfoldable pub all : {X : Type 0} → (X → Bool) → List X → Bool
all f [] = true
all f (x ∷ xs) = f x && all f xs
