-- Demand 3's replay can be run, and nothing in it is refused. Assumes nothing.
use Prim.Native.Nat.{ℕ}
use native.Mathlib.Omega.{arith}
use native.Mathlib.Nat.{le_of_eq}
use mathlib.Core.Path.{◌≡◌, refl, sym, subst}
use mathlib.Core.List.{List, [], ◌∷◌, ◌++◌, Memᴰ}
use lib.ListN.{drop, set, replicate, length-replicate}
use Rattle.replay.specs.Table.{Outcome, refused}
use Rattle.replay.specs.Serial.{Done, calls, answers, struck, serial}
use Rattle.store.specs.Layout.{header_size, store_size}
use Rattle.store.proofs.NewStore.{making_done}
use Rattle.rules.specs.Rules.{Answer, rules}
use Rattle.changes.proofs.Words.{words_append, words_drop, words_set, words_zeros}
use Rattle.demands.specs.Replays.{EachRoom, Demand3Runs}
use Rattle.demands.proofs.Possible.{can_run}
use Rattle.demands.proofs.Demand3.{demand_3}

-- answers are no refusals
none_refused : (xs : List (Done rules)) (n : ℕ) → Memᴰ (refused n) (answers rules xs) → ⊥
unfolding answers
none_refused [] n m = elim m [ ]
none_refused (x ∷ xs) n (Memᴰ.head e) = let z : ◌≡◌ {A = ℕ} 0 1 = cc in omega arith
none_refused (x ∷ xs) n (Memᴰ.tail m) = none_refused xs n m

pub demand_3_runs : Demand3Runs
demand_3_runs K σ τ σ' cs os made run made' =
    let again = can_run σ' (calls rules (serial rules (struck rules cs os))) in
    let is = demand_3 K σ τ σ' again.end cs os again.outcomes made run made' again.run in
    record {
      outcomes = again.outcomes;
      end = again.end;
      run = again.run;
      words = again.words;
      none_refused = λ n m. none_refused (serial rules (struck rules cs os)) n (subst (λ (l : List (Outcome Answer)). Memᴰ (refused n) l) is.alike m);
      replayed = is;
    }

-- every room within the limits has a new store
pub each_room : EachRoom
each_room K low high =
    let lent : List ℕ = replicate (store_size K) 0 in
    record {
      store = set (replicate header_size 0 ++ drop header_size lent) 0 K;
      made = record { lent = lent; makes = making_done K lent _ low high (le_of_eq (sym (length-replicate (store_size K) 0))) refl };
      words = words_set (replicate header_size 0 ++ drop header_size lent) 0 K (omega arith)
          (words_append (replicate header_size 0) (drop header_size lent) (words_zeros header_size) (words_drop header_size lent (words_zeros (store_size K))));
    }
