-- What an accepted opening and an accepted closing change in the numbers of a store. Assumes nothing.
use Rattle.std.specs.Prelude.{ℕ, ◌-◌, ◌<◌, ◌≡◌, true, false, ◌≢◌, List, [], ◌∷◌, ◌++◌, length, drop, replicate}
use Rattle.numbers.specs.Limits.{deepest, desks}
use Rattle.contexts.specs.Sitting.{Sample}
use Rattle.records.specs.Held.{without}
use Rattle.replay.specs.Room.{Opening}
use Rattle.replay.specs.Machine.{outside_limits, weight_outside}
use Rattle.store.specs.Layout.{store_size, opening_numbers, desk_numbers, room, used, field, size_at, slots_at, records_in}
use Rattle.store.specs.Plain.{Open}
use Rattle.store.specs.Sound.{soundb}
use Rattle.store.specs.Meaning.{opening_at}

-- the numbers that an opening names, behind the mark of an open desk
abbrev pub named_numbers : Opening → List ℕ
named_numbers o = 1 ∷ o.symbols ∷ o.depth ∷ o.weight ∷ o.reserve ∷ []

-- the numbers of a desk that opens: "both samples empty"
abbrev pub fresh_desk : Opening → List ℕ
fresh_desk o = named_numbers o ++ replicate (desk_numbers - opening_numbers) 0

-- what the judging of a reservation asks: a sound store, one of the eight desks, which is not open, and A, D and the weight within their limits
pub record Openable (s : List ℕ) (d : ℕ) (o : Opening) : Type 0 where
  pub sound : soundb s ≡ true
  pub desk : d < desks
  pub shut : Open s d → ⊥
  pub limits : outside_limits o ≡ false
  pub weight : weight_outside o ≡ false

-- t is s but for desk d and the records: the room, the other desks' numbers, all that lies past the store's size, the length
pub record Beside (s t : List ℕ) (d : ℕ) : Type 0 where
  pub room_same : room t ≡ room s
  pub others : (e f : ℕ) → e ≢ d → e < desks → f < desk_numbers → field t e f ≡ field s e f
  pub past : drop (store_size (room s)) t ≡ drop (store_size (room s)) s
  pub long : length t ≡ length s

-- desk d is opened with o, both samples empty
pub record Opened (s t : List ℕ) (d : ℕ) (o : Opening) : Type 0 where
  pub beside : Beside s t d
  pub used_same : used t ≡ used s
  pub records_same : records_in t ≡ records_in s
  pub marked : field t d 0 ≡ 1
  pub named : opening_at t d ≡ o
  pub empty : (i : Sample) → size_at t d i ≡ 0
  pub slots : (i : Sample) → slots_at t d i ≡ replicate deepest 0

-- desk d is closed, its records are taken out
pub record Closed (s t : List ℕ) (d : ℕ) : Type 0 where
  pub beside : Beside s t d
  pub records_left : records_in t ≡ without d (records_in s)
  pub marked : field t d 0 ≡ 0
