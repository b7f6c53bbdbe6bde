-- A room of K contexts and its eight desks: what the numbers of a store stand for. What a sitting has so far is the parameter `State`.
-- Assumes nothing.
use Rattle.std.specs.Prelude.{ℕ, ◌-◌}
use Rattle.numbers.specs.Limits.{desks}
use Rattle.numbers.specs.Sum.{sum}

-- what a making names: the room's size, K contexts
abbrev pub Making : Type 0
Making = ℕ

-- "Opening a desk names A, D and a reservation r", and a weight on the penalty
pub record Opening : Type 0 where
  pub symbols : ℕ
  pub depth : ℕ
  pub weight : ℕ
  pub reserve : ℕ

abbrev pub naming : ℕ → ℕ → ℕ → ℕ → Opening
naming A D weight r = record { symbols = A; depth = D; weight = weight; reserve = r }

pub data Desk (State : Type 0) : Type 0 where
  closed : Desk State
  opened : Opening → State → Desk State

-- a room as it was made, with its desks; only desks 0 to 7 are ever open
pub record Room (State : Type 0) : Type 0 where
  pub made : Making
  pub at : ℕ → Desk State

-- "A new store has no open desk"
abbrev pub new : {State : Type 0} → Making → Room State
new K = record { made = K; at = λ d. closed }

-- what a desk has reserved
unfoldable pub reserved : {State : Type 0} → Desk State → ℕ
reserved closed = 0
reserved (opened o s) = o.reserve

-- "the reservations of the open sittings"
abbrev pub reservations : {State : Type 0} → Room State → ℕ
reservations ρ = sum desks (λ d. reserved (ρ.at d))

-- "Room left is K less the reservations of the open sittings"
unfoldable pub left : {State : Type 0} → Room State → ℕ
left ρ = ρ.made - reservations ρ
