-- What the table says of an act at a store that is not sound, or at a desk that is not there or not open. Assumes nothing.
use Prim.Native.Nat.{ℕ, ◌≤◌, ◌<◌}
use mathlib.Core.Path.{◌≡◌}
use mathlib.Core.Bool.{true, false}
use mathlib.Core.List.{List}
use borrow.Author.Tests.{le-leb, lt-leb}
use Rattle.numbers.specs.Limits.{desks}
use Rattle.numbers.proofs.Tests.{is_true, not_both}
use Rattle.replay.specs.Table.{refused, verdict_of}
use Rattle.replay.specs.Machine.{verdict, table_of, table_at, asking_table, closing_table}
use Rattle.store.specs.Layout.{is_open}
use Rattle.store.specs.Sound.{soundb}
use Rattle.store.specs.Plain.{Open}
use Rattle.store.specs.Meaning.{meaning}
use Rattle.store.proofs.Fitting.{desk_closed}
use Rattle.calls.specs.declared.Refusal.TheVariants.{NoSuchDesk, NotOpen}
use Rattle.calls.proofs.Keeping.{asks_answered}
use Rattle.door.specs.Door.{Stops}

module _ (s : List ℕ) (d : ℕ) where
  module _ (e : soundb s ≡ true) where
    pub stops_no_desk : desks ≤ d → Stops s d NoSuchDesk
    unfolding verdict table_of table_at asking_table closing_table verdict_of
    stops_no_desk h = record { asks = λ q. asks_answered s _ (refused 2) e (rw (le-leb desks d h)); closes = asks_answered s _ (refused 2) e (rw (le-leb desks d h)) }

    pub stops_shut : d < desks → is_open s d ≡ false → Stops s d NotOpen
    unfolding verdict table_of table_at asking_table closing_table verdict_of meaning
    stops_shut h n =
        let shut : Open s d → ⊥ = λ o. not_both _ (is_true _ o.opened) n in
        record { asks = λ q. asks_answered s _ (refused 4) e (rw (lt-leb desks d h, desk_closed s d shut)); closes = asks_answered s _ (refused 4) e (rw (lt-leb desks d h, desk_closed s d shut)) }
