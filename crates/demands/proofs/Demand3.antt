-- Demand 3: any run replays one sitting after another. Assumes nothing.
use Prim.Native.Nat.{ℕ}
use mathlib.Core.List.{List}
use Rattle.replay.specs.Serial.{calls, struck, serial}
use Rattle.replay.proofs.Order.{nothing_lost_holds, order_kept, openings_kept}
use Rattle.replay.proofs.RealRuns.{real_answers, real_room, real_next}
use Rattle.rules.specs.Rules.{rules}
use Rattle.demands.specs.Demands.{Demand3}
use Rattle.demands.proofs.Contracts.{contracts, newly_made, runs}
use Rattle.demands.proofs.Demand2.{demand_2}

pub demand_3 : Demand3
demand_3 K σ τ σ' τ' cs os os' made run made' again =
    let new = newly_made K σ made in
    let new' = newly_made K σ' made' in
    record {
      alike = real_answers rules (List ℕ) contracts K σ τ σ' τ' cs os os' new (runs run) new' (runs again);
      same_room = real_room rules (List ℕ) contracts K σ τ σ' τ' cs os os' new (runs run) new' (runs again);
      next_alike = real_next rules (List ℕ) contracts K σ τ σ' τ' cs os os' new (runs run) new' (runs again);
      nothing_lost_holds = nothing_lost_holds rules (struck rules cs os);
      order_kept = λ d. order_kept rules d (struck rules cs os);
      openings_kept = openings_kept rules (struck rules cs os);
      own_reports = demand_2 K σ τ cs os made run;
      own_again = demand_2 K σ' τ' (calls rules (serial rules (struck rules cs os))) os' made' again;
    }
