-- Each call is refused by the first line of its table that applies and answered where none does; a refused call leaves the room
-- as it was, and the room question changes nothing. Assumes nothing.
use Prim.Native.Nat.{ℕ}
use mathlib.Core.Path.{◌≡◌, refl}
use mathlib.Core.Logic.{◌↔◌}
use Rattle.replay.specs.Room.{Room, left}
use Rattle.replay.specs.Table.{Outcome, answered, refused, verdict_of, NoneApplies, First}
use Rattle.replay.specs.Machine.{Rules, Call, room_question, table_of, answer_of, verdict, shift, settle, move}
use Rattle.replay.proofs.Tables.{refused_exactly, answered_exactly, answers_none}

module _ (R : Rules) where
  -- refused n exactly when n is the number of the first line of the call's table that applies
  pub refused_when : (ρ : Room R.State) (c : Call R) (n : ℕ) → (verdict R ρ c ≡ refused n) ↔ First (table_of R ρ c) n
  unfolding verdict
  refused_when ρ c n = refused_exactly (table_of R ρ c) (answer_of R ρ c) n

  -- answered exactly when no line applies
  pub answered_when : (ρ : Room R.State) (c : Call R) → (verdict R ρ c ≡ answered (answer_of R ρ c)) ↔ NoneApplies (table_of R ρ c)
  unfolding verdict
  answered_when ρ c = answered_exactly (table_of R ρ c) (answer_of R ρ c)

  -- and there is no other answer
  pub answer_only : (ρ : Room R.State) (c : Call R) (a : R.Answer) → verdict R ρ c ≡ answered a → answer_of R ρ c ≡ a
  unfolding verdict
  answer_only ρ c a e = (answers_none (table_of R ρ c) (answer_of R ρ c) a e).1

  -- a refused call leaves the room as it was
  pub refused_stays : (ρ : Room R.State) (c : Call R) (n : ℕ) → verdict R ρ c ≡ refused n → move R ρ c ≡ ρ
  unfolding move settle
  refused_stays ρ c n e = rw e

  pub answered_shifts : (ρ : Room R.State) (c : Call R) (a : R.Answer) → verdict R ρ c ≡ answered a → move R ρ c ≡ shift R ρ c
  unfolding move settle
  answered_shifts ρ c a e = rw e

  -- the room question answers the room left, and changes nothing
  pub question_answers : (ρ : Room R.State) → verdict R ρ room_question ≡ answered (R.room (left ρ))
  unfolding verdict verdict_of table_of answer_of
  question_answers ρ = refl

  pub question_stays : (ρ : Room R.State) → move R ρ room_question ≡ ρ
  unfolding move shift settle
  question_stays ρ = go (verdict R ρ room_question)
    where
      go : (o : Outcome R.Answer) → settle o ρ ρ ≡ ρ
      go (refused n) = refl
      go (answered a) = refl
