-- Each table of a call at a store has exactly its written list of numbers, in this order; an ask's at a desk that is not open has it up to 4. Assumes nothing.
use Prim.Native.Nat.{ℕ}
use mathlib.Core.Path.{◌≡◌, refl}
use mathlib.Core.Bool.{cond}
use mathlib.Core.List.{[], ◌∷◌}
use lib.ListN.{take}
use Rattle.contexts.specs.Sitting.{Progress}
use Rattle.replay.specs.Room.{Opening, Desk, closed, opened, Room}
use Rattle.replay.specs.Machine.{opening, asking, closing, Call, at_desk, room_question, is_opened, opening_table, own_lines, asking_table, closing_table, table_at, table_of}
use Rattle.rules.specs.Rules.{Ask, feed, reporting, charting, lines_of, rules}
use Rattle.rules.specs.Orders.{order_of, numbers_in, order_in}

-- an ask's table at a desk that is not open, and at one that is
at_none : (d : ℕ) (q : Ask) → 2 ∷ 4 ∷ [] ≡ take 2 (order_of (at_desk d (asking q)))
unfolding order_of
at_none d (feed i a) = refl
at_none d (reporting sheet place) = refl
at_none d (charting len code a) = refl

at_sitting : (d : ℕ) (o : Opening) (p : Progress) (q : Ask) → 2 ∷ 4 ∷ numbers_in (lines_of o p q) ≡ order_of (at_desk d (asking q))
unfolding order_of lines_of
at_sitting d o p (feed i a) = refl
at_sitting d o p (reporting sheet place) = refl
at_sitting d o p (charting len code a) = refl

-- THEOREM. The numbers of a call's table are those of its list, in this order; `order_in` says how far
pub in_order : (ρ : Room Progress) (c : Call rules) → numbers_in (table_of rules ρ c) ≡ order_in ρ c
unfolding order_of order_in table_of table_at opening_table asking_table closing_table own_lines
in_order ρ (at_desk d (opening o)) = refl
in_order ρ (at_desk d (asking q)) = go (ρ.at d)
  where
    go : (D : Desk Progress) → numbers_in (asking_table rules d D q) ≡ cond (is_opened D) (order_of (at_desk d (asking q))) (take 2 (order_of (at_desk d (asking q))))
    go closed = at_none d q
    go (opened o p) = at_sitting d o p q
in_order ρ (at_desk d closing) = refl
in_order ρ room_question = refl
