-- A sitting by itself, whatever its neighbours do. Assumes nothing.
use Rattle.std.specs.Prelude.{ℕ, ◌≡◌, cond, eqb}
use mathlib.Core.List.{List, [], ◌∷◌, ◌++◌, foldl}
use Rattle.std.proofs.Math.Option.{Option, none, some}
use Rattle.replay.specs.Room.{Opening, Desk, closed, opened, Room}
use Rattle.replay.specs.Table.{NoneApplies}
use Rattle.replay.specs.Machine.{Rules, Act, opening, asking, closing}
use Rattle.replay.specs.Serial.{Told, Course}

module _ (R : Rules) where
  -- `Alone ts D`: the acts and answers `ts` are those of one sitting held alone, and they leave its desk as D. It begins with
  -- its opening, each later ask is judged and answered by the sitting as its own calls have made it, and a closing ends it.
  pub data Alone : List (Told R) → Desk R.State → Type 0 where
    opens_alone : (o : Opening) → Alone (record { act = opening o; answer = R.done } ∷ []) (opened o (R.fresh o))
    goes_on : {ts : List (Told R)} {o : Opening} {s : R.State} → Alone ts (opened o s) → (q : R.Ask) → NoneApplies (R.lines o s q)
        → Alone (ts ++ record { act = asking q; answer = R.answer o s q } ∷ []) (opened o (R.next o s q))
    ends : {ts : List (Told R)} {o : Opening} {s : R.State} → Alone ts (opened o s) → Alone (ts ++ record { act = closing; answer = R.done } ∷ []) closed

  -- the latest sitting at a desk, of sittings that stand newest first
  unfoldable pub latest : ℕ → List (Course R) → Option (Course R)
  latest d [] = none
  latest d (g ∷ gs) = cond (eqb g.desk d) (some g) (latest d gs)

  -- a desk stands as its latest sitting, held alone, leaves it; a desk that had none is closed
  abbrev pub Stands : Desk R.State → Option (Course R) → Type 0
  Stands D none = D ≡ closed
  Stands D (some g) = Alone g.told D

  -- each sitting of a list is one held alone
  abbrev pub EachAlone : List (Course R) → Type 0
  EachAlone [] = Unit {0}
  EachAlone (g ∷ gs) = ((D : Desk R.State) × Alone g.told D) × EachAlone gs

  -- each sitting is what its own calls make it, and so is each desk
  pub record OnTheirOwn (ρ : Room R.State) (gs : List (Course R)) : Type 0 where
    pub each : EachAlone gs
    pub desks : (d : ℕ) → Stands (ρ.at d) (latest d gs)

  -- the asks among a sitting's acts
  unfoldable pub asks : List (Told R) → List R.Ask
  asks [] = []
  asks (t ∷ ts) = asked t.act (asks ts)
    where
      asked : Act R → List R.Ask → List R.Ask
      asked (opening o) qs = qs
      asked (asking q) qs = q ∷ qs
      asked closing qs = qs

  -- the state to which asks, one after the other, bring a new sitting
  unfoldable pub reached : Opening → List R.Ask → R.State
  reached o qs = foldl (R.next o) (R.fresh o) qs

  -- a desk opened with o has the state s: that to which its latest sitting's own asks, each accepted, have brought it
  pub record OpenAlone (gs : List (Course R)) (d : ℕ) (o : Opening) (s : R.State) : Type 0 where
    pub sitting : Course R
    pub there : latest d gs ≡ some sitting
    pub alone : Alone sitting.told (opened o s)
    pub state : s ≡ reached o (asks sitting.told)

  -- an ask at a desk is answered a by the latest sitting there, as its own calls have made it
  pub record AnsweredAlone (gs : List (Course R)) (d : ℕ) (q : R.Ask) (a : R.Answer) : Type 0 where
    pub named : Opening
    pub state : R.State
    pub own : OpenAlone gs d named state
    pub accepted : NoneApplies (R.lines named state q)
    pub answer : R.answer named state q ≡ a
