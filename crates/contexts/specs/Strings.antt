-- Sums over all strings up to a depth. Assumes nothing.
use Rattle.std.specs.Prelude.{ℕ, zero, suc, ◌+◌, ◌*◌, List, [], ◌∷◌}
use Rattle.numbers.specs.Sum.{sum}

-- what f is at the strings whose most recent symbol is a, as a function of the rest
abbrev pub under {ℓ} : {B : Type ℓ} → ℕ → (List ℕ → B) → List ℕ → B
under a f s = f (a ∷ s)

-- the sum of g over all strings of at most d symbols, each below A
unfoldable pub total : ℕ → ℕ → (List ℕ → ℕ) → ℕ
total A zero g = g []
total A (suc d) g = g [] + sum A (λ a. total A d (under a g))

-- how many such strings there are
unfoldable pub strings : ℕ → ℕ → ℕ
strings A zero = 1
strings A (suc d) = 1 + A * strings A d
