-- What is known of a store while a feed's contexts are sought. Assumes nothing.
use Rattle.std.specs.Prelude.{ℕ, ◌+◌, ◌*◌, ◌≤◌, ◌<◌, ◌≡◌, true, List, T}
use Rattle.numbers.specs.Limits.{most_symbols, deepest, desks}
use Rattle.contexts.specs.Context.{is_context}
use Rattle.contexts.specs.Keys.{desk_span}
use Rattle.records.specs.Records.{records, keys}
use Rattle.records.specs.Held.{rank, Standing}
use Rattle.records.specs.Located.{Located}
use Rattle.store.specs.Layout.{records_in}
use Rattle.store.specs.Sound.{soundb}
use Rattle.store.specs.Plain.{Open}

-- at an open desk it is known where the contexts of a symbol that follows `recent` stand: m of them are held
pub record Found (s : List ℕ) (d : ℕ) (recent : List ℕ) (m : ℕ) (places : List ℕ) : Type 0 where
  pub sound : soundb s ≡ true
  pub at_open : Open s d
  pub context : T (is_context most_symbols deepest recent)
  pub located : Located d recent (records_in s) m places

-- the first of a desk's records is at place `first`, and none of the next desk's comes before place `from`
pub record Spanned (d n first from : ℕ) (l : List ℕ) : Type 0 where
  pub standing : Standing n l
  pub desk : d < desks
  pub begin : first ≡ rank (d * desk_span) (keys (records n l))
  pub no_later : from ≤ rank ((d + 1) * desk_span) (keys (records n l))
