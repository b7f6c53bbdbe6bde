-- The room that a store's numbers leave, and what the room question answers. Assumes nothing.
use Prim.Native.Nat.{ℕ, ◌-◌, ◌≤◌}
use native.Mathlib.Omega.{arith}
use mathlib.Core.Path.{◌≡◌, ap}
use mathlib.Core.Bool.{true}
use mathlib.Core.List.{List}
use Rattle.numbers.specs.Limits.{desks, most_room}
use Rattle.numbers.specs.Sum.{sum}
use Rattle.replay.specs.Room.{left}
use Rattle.replay.specs.Table.{answered, verdict_of}
use Rattle.replay.specs.Machine.{room_question, verdict, table_of, answer_of}
use Rattle.store.specs.Layout.{room}
use Rattle.store.specs.Sound.{reserved_at, soundb}
use Rattle.store.specs.Meaning.{meaning}
use Rattle.store.proofs.Passing.{passed}
use Rattle.store.proofs.Fitting.{reserved_means}
use Rattle.rules.specs.Rules.{rules}
use Rattle.rules.specs.Rules as answer

-- the room left, as the numbers have it
pub left_is : (s : List ℕ) → left (meaning s) ≡ room s - sum desks (reserved_at s)
unfolding left meaning
left_is s = ap (λ (n : ℕ). room s - n) (reserved_means s)

-- K is small, and has room for what is reserved
pub room_small : (s : List ℕ) → soundb s ≡ true → room s ≤ most_room
room_small s h = omega (arith, (passed s h).framed.most)

pub reserves_fit : (s : List ℕ) → soundb s ≡ true → sum desks (reserved_at s) ≤ room s
reserves_fit s h = (passed s h).reserves

-- the room question is never refused by its table
pub asked_room : (s : List ℕ) (n : ℕ) → n ≡ left (meaning s) → verdict rules (meaning s) room_question ≡ answered (answer.contexts_left n)
unfolding verdict table_of answer_of verdict_of
asked_room s n e = rw e
