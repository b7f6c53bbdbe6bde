-- `records::counts_at` meets its contract. Assumes nothing.
use mathlib.Core.Path.{ap₂, ◌∙◌}
use mathlib.Core.List.{List, [], ◌∷◌}
use Prim.Native.Nat.{ℕ}
use native.Mathlib.Omega.{arith}
use Rattle.records.proofs.Cells.{record_cells}
use Rattle.records.proofs.counts_at.Goals as goal

pub returns : goal.returns
returns c =
    let at = c.args.at in
    let l = c.args.numbers.now in
    ap₂ {C = List (List ℕ)} (λ a b. a ∷ b ∷ [])
    (c.numbers_at-first.ensures ∙ record_cells at 1 l (omega arith))
    (c.numbers_at-second.ensures ∙ record_cells at 9 l (omega arith))
