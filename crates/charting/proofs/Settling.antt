-- The promise of a chart question settles the answer of the code, not only what it says in the room's machine. Assumes nothing.
use Prim.Native.Nat.{ℕ}
use mathlib.Core.Path.{◌≡◌}
use mathlib.Core.List.{List}
use Rattle.replay.specs.Machine.{Call}
use Rattle.rules.specs.Rules.{rules}
use Rattle.calls.specs.Refusals.{charted_of}
use Rattle.calls.specs.Promises.{Asks}
use Rattle.std.specs.Prelude.{Result}
use Rattle.chart.specs.declared.Chart.{Chart}
use Rattle.calls.specs.declared.Refusal.{Refusal}
use Rattle.calls.proofs.OneAnswer.{one_chart}
use Rattle.calls.proofs.Settled.{asks_settled}

-- THEOREM. Whatever a chart question's promise allows is one answer
pub charted_settled : (s : List ℕ) (c : Call rules) (r t : Result Chart Refusal) → Asks s c (charted_of r) → Asks s c (charted_of t) → r ≡ t
charted_settled s c r t p q = one_chart r t (asks_settled s c (charted_of r) (charted_of t) p q)
