-- Making a store. Assumes nothing.
use Rattle.std.specs.Prelude.{◌≡◌, Bool, true, cond, ◌||◌, List, ℕ, length, drop, ltb, Result, Ok, Err}
use Rattle.numbers.specs.Limits.{most_room}
use Rattle.replay.specs.Room.{new}
use Rattle.store.specs.Layout.{store_size}
use Rattle.store.specs.Sound.{soundb}
use Rattle.store.specs.Meaning.{meaning}
use Rattle.store.specs.declared.Refusal.{Refusal}
use Rattle.store.specs.declared.Refusal.TheVariants.{RoomOutside, StoreShort}

-- document 01's number of each refusal ..
abbrev pub refusal_number : Refusal → ℕ
refusal_number RoomOutside = 17
refusal_number StoreShort = 18

-- .. and 0 where the store was made
abbrev pub refusal_of : Result (Unit {0}) Refusal → ℕ
refusal_of (Ok u) = 0
refusal_of (Err why) = refusal_number why

-- "making with K outside 1 to 4,096"
abbrev pub room_outside : ℕ → Bool
room_outside K = ltb K 1 || ltb most_room K

-- "making with too short a store", of n numbers
abbrev pub store_short : ℕ → ℕ → Bool
store_short K n = ltb n (store_size K)

-- where both apply, 17 goes first
abbrev pub made_of : ℕ → ℕ → Result (Unit {0}) Refusal
made_of K n = cond (room_outside K) (Err RoomOutside) (cond (store_short K n) (Err StoreShort) (Ok tt))

-- a making of room K with the numbers `before`, which answers and leaves `after`
pub record Makes (K : ℕ) (before : List ℕ) (answer : Result (Unit {0}) Refusal) (after : List ℕ) : Type 0 where
  pub answered : answer ≡ made_of K (length before)
  pub sound_after : answer ≡ Ok tt → soundb after ≡ true
  -- "A new store has no open desk"
  pub means : answer ≡ Ok tt → meaning after ≡ new K
  -- "only the first that many are ever written"
  pub rest_kept : answer ≡ Ok tt → drop (store_size K) after ≡ drop (store_size K) before
  pub length_kept : length after ≡ length before
  -- "Every refusal .. store .. stay as before"
  pub refused_kept : (answer ≡ Ok tt → ⊥) → after ≡ before
