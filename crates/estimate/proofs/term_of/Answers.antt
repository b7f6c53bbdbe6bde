-- `estimate::term_of` meets its contract. Assumes nothing.
use Prim.Native.Nat.{ℕ, ◌*◌, ◌≤◌}
use native.Mathlib.Nat.{le_of_eq, le_trans}
use mathlib.Core.Path.{◌≡◌, ap₂, ◌∙◌}
use Rattle.numbers.specs.Limits.{most_counted, top_log}
use Rattle.logarithm.specs.Logarithm.{L}
use Rattle.logarithm.proofs.Laws.{term_top}
use Rattle.estimate.proofs.term_of.Goals as goal

-- the product is the count times its logarithm
product : (x l n : ℕ) → x ≡ n → l ≡ L n → n ≤ most_counted → (x * l ≡ n * L n) × (x * l ≤ most_counted * top_log)
product x l n e f h = let p = ap₂ (λ (a b : ℕ). a * b) e f in (p, le_trans (le_of_eq p) (term_top n h))

pub returns : goal.returns
returns c =
    product _ _ c.args.c c.from.ensures (c.from-2.ensures ∙ c.log_at.ensures) c.requires
