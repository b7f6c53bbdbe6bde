-- `estimate::quarter_of` meets its contract. Assumes nothing.
use Prim.Native.Nat.{ℕ, ◌*◌, ◌-◌, ◌≤◌}
use native.Mathlib.Nat.{mul-le-mul}
use native.Mathlib.Omega.{arith}
use mathlib.Core.Path.{◌≡◌, ap₂, ◌∙◌}
use Rattle.numbers.specs.Limits.{most_symbols, most_counted, top_log}
use Rattle.logarithm.specs.Logarithm.{L}
use Rattle.logarithm.proofs.Laws.{L_top}
use Rattle.estimate.specs.Score.{quarter}
use Rattle.estimate.proofs.quarter_of.Goals as goal

-- the product is what a quarter costs, and small
product : (x l A n : ℕ) → x ≡ A - 1 → l ≡ L n → A ≤ most_symbols → n ≤ most_counted → (x * l ≡ quarter A n) × (x * l ≤ most_symbols * top_log)
product x l A n e f few h =
    let t : l ≤ top_log = omega (arith, f, L_top n h) in
    let b : x ≤ most_symbols = omega arith in
    (ap₂ (λ (a b : ℕ). a * b) e f, mul-le-mul b t)

pub returns : goal.returns
returns c =
    product _ _ c.args.symbols c.args.n c.from.ensures (c.from-2.ensures ∙ c.log_at.ensures) c.requires.1 c.requires.2
