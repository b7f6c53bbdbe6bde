-- A run of calls, what is left of it when the refused calls and the room questions are struck out, and the same calls one
-- sitting after another. Assumes nothing.
use Rattle.std.specs.Prelude.{ℕ, ◌≡◌, Bool, true, false, cond, List, [], ◌∷◌, ◌++◌, map, eqb}
use Rattle.replay.specs.Room.{Room}
use Rattle.replay.specs.Table.{Outcome, refused, answered}
use Rattle.replay.specs.Machine.{Rules, Act, opening, asking, closing, Call, at_desk, room_question, verdict, move}

module _ (R : Rules) where
  -- what the calls of a run answer
  unfoldable pub outcomes : Room R.State → List (Call R) → List (Outcome R.Answer)
  outcomes ρ [] = []
  outcomes ρ (c ∷ cs) = verdict R ρ c ∷ outcomes (move R ρ c) cs

  -- the room that they leave
  unfoldable pub after : Room R.State → List (Call R) → Room R.State
  after ρ [] = ρ
  after ρ (c ∷ cs) = after (move R ρ c) cs

  -- an accepted call at a desk, with the answer that it got
  pub record Done : Type 0 where
    pub desk : ℕ
    pub act : Act R
    pub answer : R.Answer

  abbrev pub called : Done → Call R
  called x = at_desk x.desk x.act

  -- the calls of a list of these, and what they answered
  unfoldable pub calls : List Done → List (Call R)
  calls xs = map called xs

  unfoldable pub answers : List Done → List (Outcome R.Answer)
  answers xs = map (λ x. answered x.answer) xs

  -- a run with the refused calls and the room questions struck out
  unfoldable pub struck : List (Call R) → List (Outcome R.Answer) → List Done
  struck [] os = []
  struck (c ∷ cs) [] = []
  struck (room_question ∷ cs) (o ∷ os) = struck cs os
  struck (at_desk d a ∷ cs) (refused n ∷ os) = struck cs os
  struck (at_desk d a ∷ cs) (answered x ∷ os) = record { desk = d; act = a; answer = x } ∷ struck cs os

  -- an accepted act, with the answer that it got
  pub record Told : Type 0 where
    pub act : Act R
    pub answer : R.Answer

  -- the course of one sitting: its desk, and its accepted acts in their order
  pub record Course : Type 0 where
    pub desk : ℕ
    pub told : List Told

  -- an act as the call at a desk that it was, and back
  abbrev pub done_at : ℕ → Told → Done
  done_at d t = record { desk = d; act = t.act; answer = t.answer }

  abbrev pub tell : Done → Told
  tell x = record { act = x.act; answer = x.answer }

  -- a sitting's calls, as the run had them
  unfoldable pub played : Course → List Done
  played g = map (done_at g.desk) g.told

  -- a sitting that a call begins, and one that it goes on with
  abbrev pub begun : Done → Course
  begun x = record { desk = x.desk; told = tell x ∷ [] }

  abbrev pub grown : Course → Done → Course
  grown g x = record { desk = g.desk; told = g.told ++ tell x ∷ [] }

  -- a call joins the latest sitting at its desk (the sittings stand newest first; there is one for every accepted call)
  unfoldable pub joined : Done → List Course → List Course
  joined x [] = begun x ∷ []
  joined x (g ∷ gs) = cond (eqb g.desk x.desk) (grown g x ∷ gs) (g ∷ joined x gs)

  -- whether an act is an opening
  abbrev pub opens : Act R → Bool
  opens (opening o) = true
  opens (asking q) = false
  opens closing = false

  -- an opening begins a sitting, and any other call joins the one at its desk
  unfoldable pub entered : Done → List Course → List Course
  entered x gs = cond (opens x.act) (begun x ∷ gs) (joined x gs)

  -- the sittings of a run after those in `gs`, newest first
  unfoldable pub sittings : List Course → List Done → List Course
  sittings gs [] = gs
  sittings gs (x ∷ xs) = sittings (entered x gs) xs

  -- the calls of sittings that stand newest first, the oldest sitting's first
  unfoldable pub oldest_first : List Course → List Done
  oldest_first [] = []
  oldest_first (g ∷ gs) = oldest_first gs ++ played g

  -- the same calls one sitting after another in order of opening, each sitting's calls in their own order
  unfoldable pub serial : List Done → List Done
  serial xs = oldest_first (sittings [] xs)

  -- the calls of a list that pass a test: those at one desk, and the openings
  unfoldable pub those : (Done → Bool) → List Done → List Done
  those p [] = []
  those p (x ∷ xs) = cond (p x) (x ∷ those p xs) (those p xs)

  abbrev pub calls_at : ℕ → List Done → List Done
  calls_at d xs = those (λ x. eqb x.desk d) xs

  abbrev pub openings : List Done → List Done
  openings xs = those (λ x. opens x.act) xs

  -- calls replayed on the room ρ, which must come to `end`: nothing is refused, every answer is the same, and so is the room
  pub record Replays (ρ : Room R.State) (xs : List Done) (end : Room R.State) : Type 0 where
    pub alike : outcomes ρ (calls xs) ≡ answers xs
    pub same : after ρ (calls xs) ≡ end
