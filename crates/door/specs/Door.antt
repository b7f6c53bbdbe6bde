-- What is known of a desk behind the door, and what an act gets that is stopped there. Assumes nothing.
use Rattle.std.specs.Prelude.{ℕ, ◌≡◌, true, List}
use Rattle.replay.specs.Table.{refused}
use Rattle.replay.specs.Machine.{at_desk, asking, closing}
use Rattle.store.specs.Sound.{soundb}
use Rattle.store.specs.Plain.{Open}
use Rattle.rules.specs.Rules.{Ask}
use Rattle.calls.specs.Promises.{Asks}
use Rattle.calls.specs.Refusals.{refusal_number}
use Rattle.calls.specs.declared.Refusal.{Refusal}

-- the desk of that number is open, in a sound store
pub record DeskFound (store : List ℕ) (desk at : ℕ) : Type 0 where
  pub number : at ≡ desk
  pub sound : soundb store ≡ true
  pub at_open : Open store desk

-- every act there but an opening is refused so, as the table of refusals says
pub record Stops (store : List ℕ) (desk : ℕ) (why : Refusal) : Type 0 where
  pub asks : (q : Ask) → Asks store (at_desk desk (asking q)) (refused (refusal_number why))
  pub closes : Asks store (at_desk desk closing) (refused (refusal_number why))
