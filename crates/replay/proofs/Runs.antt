-- What an accepted call keeps, of a room and the sittings so far, every run keeps: refused calls and room questions change
-- neither. Assumes nothing.
use mathlib.Core.Path.{◌≡◌, refl}
use mathlib.Core.List.{List, [], ◌∷◌}
use Rattle.replay.specs.Room.{Room}
use Rattle.replay.specs.Table.{Outcome, refused, answered}
use Rattle.replay.specs.Machine.{Rules, Call, at_desk, room_question, verdict, shift, move}
use Rattle.replay.specs.Serial.{outcomes, after, Done, called, struck, Course, entered, sittings}
use Rattle.replay.proofs.Refusals.{refused_stays, answered_shifts, question_stays}

module _ (R : Rules) (I : Room R.State → List (Course R) → Type 0)
    (one : (ρ : Room R.State) (gs : List (Course R)) (x : Done R) → I ρ gs → verdict R ρ (called R x) ≡ answered x.answer
    → I (shift R ρ (called R x)) (entered R x gs)) where
  pub run_keeps : (cs : List (Call R)) (ρ : Room R.State) (gs : List (Course R)) → I ρ gs
      → I (after R ρ cs) (sittings R gs (struck R cs (outcomes R ρ cs)))
  unfolding sittings struck outcomes after
  run_keeps [] ρ gs h = h
  run_keeps (room_question ∷ cs) ρ gs h = run_keeps cs (move R ρ room_question) gs (rw (question_stays R ρ) h)
  run_keeps (at_desk d a ∷ cs) ρ gs h = go (verdict R ρ (at_desk d a)) refl (run_keeps cs (move R ρ (at_desk d a)))
    where
      go : (o : Outcome R.Answer) → verdict R ρ (at_desk d a) ≡ o
          → ((gs : List (Course R)) → I (move R ρ (at_desk d a)) gs
          → I (after R (move R ρ (at_desk d a)) cs) (sittings R gs (struck R cs (outcomes R (move R ρ (at_desk d a)) cs))))
          → I (after R (move R ρ (at_desk d a)) cs) (sittings R gs (struck R (at_desk d a ∷ cs) (o ∷ outcomes R (move R ρ (at_desk d a)) cs)))
      go (refused n) e rest = rest gs (rw (refused_stays R ρ (at_desk d a) n e) h)
      go (answered x) e rest = rest _ (rw (answered_shifts R ρ (at_desk d a) x e) (one ρ gs (record { desk = d; act = a; answer = x }) h e))
