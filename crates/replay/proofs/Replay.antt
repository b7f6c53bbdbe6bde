-- Demand 3 of the room: a run's accepted calls, played on a new room one sitting after another, answer the same and leave the
-- same room. Assumes nothing.
use Prim.Native.Nat.{ℕ}
use mathlib.Core.Path.{◌≡◌, refl, ◌∙◌, ap}
use mathlib.Core.Bool.{Bool, true, false, cond}
use mathlib.Core.List.{List, [], ◌∷◌, ◌++◌, map, map-append, append_assoc}
use lib.Dec.{eqb}
use borrow.Author.Tests.{eqb-true}
use Rattle.replay.specs.Room.{Making, Room, new}
use Rattle.replay.specs.Table.{answered}
use Rattle.replay.specs.Machine.{Rules, Call, verdict, shift}
use Rattle.replay.specs.Serial.{opens, outcomes, after, Done, called, struck, Told, Course, done_at, played, tell, begun, grown, joined, entered, sittings, oldest_first, serial, Replays}
use Rattle.replay.proofs.Clean.{Clean, shifts, clean_outcomes, clean_after, clean_join, shifts_append, Goes, goes_refl, goes_trans, goes_cons, goes_left, goes_right, goes_swap}
use Rattle.replay.proofs.Runs.{run_keeps}

module _ (R : Rules) where
  -- a call that is no opening goes before the calls of a sitting at another desk
  before : (x : Done R) → opens R x.act ≡ false → (d : ℕ) → eqb d x.desk ≡ false → (ts : List (Told R))
      → Goes R (map (done_at R d) ts ++ x ∷ []) (x ∷ map (done_at R d) ts)
  before x n d h [] = goes_refl R _
  before x n d h (t ∷ ts) = goes_trans R (goes_cons R (done_at R d t) (before x n d h ts)) (goes_swap R (done_at R d t) x _ h n)

  -- a sitting with one more call plays it last
  pub played_grown : (g : Course R) (x : Done R) → g.desk ≡ x.desk → played R (grown R g x) ≡ played R g ++ x ∷ []
  unfolding played
  played_grown g x e =
      map-append (done_at R g.desk) g.told (tell R x ∷ []) ∙ ap (λ (d : ℕ). map (done_at R g.desk) g.told ++ done_at R d (tell R x) ∷ []) e

  -- a call that joins its sitting goes before all that was opened later
  joins : (x : Done R) → opens R x.act ≡ false → (gs : List (Course R)) → Goes R (oldest_first R gs ++ x ∷ []) (oldest_first R (joined R x gs))
  unfolding oldest_first joined played
  joins x n [] = goes_refl R _
  joins x n (g ∷ gs) = go (eqb g.desk x.desk) refl (joins x n gs)
    where
      go : (b : Bool) → eqb g.desk x.desk ≡ b → Goes R (oldest_first R gs ++ x ∷ []) (oldest_first R (joined R x gs))
          → Goes R (oldest_first R gs ++ played R g ++ x ∷ []) (oldest_first R (cond b (grown R g x ∷ gs) (g ∷ joined R x gs)))
      go true p rest = rw (append_assoc, played_grown g x (eqb-true _ _ p)) (goes_refl R _)
      go false p rest =
          rw append_assoc
          (goes_trans R (goes_left R (oldest_first R gs) (before x n g.desk p g.told))
          (rw (← (append_assoc (oldest_first R gs) (x ∷ []) (played R g)))
          (goes_right R (played R g) rest)))

  -- an accepted call, entered among the sittings
  enters : (x : Done R) (gs : List (Course R)) → Goes R (oldest_first R gs ++ x ∷ []) (oldest_first R (entered R x gs))
  unfolding entered oldest_first played
  enters x gs = go (opens R x.act) refl
    where
      go : (b : Bool) → opens R x.act ≡ b → Goes R (oldest_first R gs ++ x ∷ []) (oldest_first R (cond b (begun R x ∷ gs) (joined R x gs)))
      go true e = goes_refl R _
      go false e = joins x e gs

  -- played on a new room, the sittings `gs` are clean and come to ρ
  abbrev Plays : Making → Room R.State → List (Course R) → Type 0
  Plays K ρ gs = Clean R (new K) (oldest_first R gs) × (shifts R (new K) (oldest_first R gs) ≡ ρ)

  plays_one : (K : Making) (ρ : Room R.State) (gs : List (Course R)) (x : Done R) → Plays K ρ gs → verdict R ρ (called R x) ≡ answered x.answer
      → Plays K (shift R ρ (called R x)) (entered R x gs)
  plays_one K ρ gs x h e =
      let p = (enters x gs).on (new K) (clean_join R (new K) (oldest_first R gs) (x ∷ []) h.0 (rw h.1 (e, tt))) in
      (p.0, p.1 ∙ shifts_append R (new K) (oldest_first R gs) (x ∷ []) ∙ ap (λ r. shift R r (called R x)) h.1)

  plays : (K : Making) (cs : List (Call R)) → Plays K (after R (new K) cs) (sittings R [] (struck R cs (outcomes R (new K) cs)))
  unfolding oldest_first
  plays K cs = run_keeps R (Plays K) (plays_one K) cs (new K) [] (tt, refl)

  -- DEMAND 3. Any run on a new room, the refused calls and the room questions struck out, replayed on a new room of the same
  -- making one sitting after another in order of opening, each sitting's calls in their own order: nothing is refused, every
  -- answer is the same, and the room at the end is the same.
  pub replay : (K : Making) (cs : List (Call R)) → Replays R (new K) (serial R (struck R cs (outcomes R (new K) cs))) (after R (new K) cs)
  unfolding serial
  replay K cs =
      let h = plays K cs in
      record { alike = clean_outcomes R (new K) _ h.0; same = clean_after R (new K) _ h.0 ∙ h.1 }
