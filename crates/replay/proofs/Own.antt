-- Each sitting of a run answers, and leaves its desk, as it would alone. Assumes nothing.
use Prim.Native.Nat.{ℕ}
use native.Mathlib.Omega.{arith}
use mathlib.Core.Path.{◌≡◌, refl, ap}
use mathlib.Core.Bool.{Bool, true, false, cond}
use mathlib.Core.List.{List, [], ◌∷◌, ◌++◌}
use mathlib.Core.Option.{some}
use lib.Dec.{eqb}
use borrow.Author.Tests.{eqb-true}
use Rattle.replay.specs.Room.{Making, Opening, Desk, closed, opened, Room, new}
use Rattle.replay.specs.Table.{answered, NoneApplies}
use Rattle.replay.specs.Machine.{Rules, Spare, spare, Act, opening, asking, closing, Call, opening_table, own_lines, asking_table, closing_table, table_at, answer_at, verdict, moved, shift}
use Rattle.replay.specs.Serial.{opens, outcomes, after, Done, called, struck, Told, Course, tell, begun, grown, joined, entered, sittings}
use Rattle.replay.specs.Alone.{Alone, opens_alone, goes_on, ends, latest, Stands, EachAlone, OnTheirOwn}
use Rattle.replay.proofs.Desks.{apart_sym}
use Rattle.replay.proofs.Swap.{heard, shift_here, shift_away}
use Rattle.replay.proofs.Reservations.{shut}
use Rattle.replay.proofs.Runs.{run_keeps}

module _ (R : Rules) where
  -- an act that no line refuses at a desk
  abbrev Passes : Spare → ℕ → Desk R.State → Act R → Type 0
  Passes S d D b = NoneApplies (table_at R S d D b)

  -- an accepted opening begins a sitting
  opens_alone_lem : (S : Spare) (d : ℕ) (D : Desk R.State) (o : Opening) → Passes S d D (opening o)
      → Alone R (record { act = opening o; answer = answer_at R D (opening o) } ∷ []) (moved R D (opening o))
  unfolding table_at opening_table answer_at moved
  opens_alone_lem S d D o h = rw (shut D h.1.0) (opens_alone o)

  -- any other accepted act goes on with the sitting that stands there
  goes_alone : (S : Spare) (d : ℕ) (D : Desk R.State) (ts : List (Told R)) (b : Act R) → opens R b ≡ false → Passes S d D b
      → Alone R ts D → Alone R (ts ++ record { act = b; answer = answer_at R D b } ∷ []) (moved R D b)
  unfolding table_at asking_table closing_table own_lines answer_at moved
  goes_alone S d D ts (opening o) n h a = let z : ◌≡◌ {A = ℕ} 0 1 = cc in absurd (omega arith)
  goes_alone S d closed ts (asking q) n h a = let z : ◌≡◌ {A = ℕ} 0 1 = cc h.1.0 in absurd (omega arith)
  goes_alone S d (opened o s) ts (asking q) n h a = goes_on a q h.1.1
  goes_alone S d closed ts closing n h a = let z : ◌≡◌ {A = ℕ} 0 1 = cc h.1.0 in absurd (omega arith)
  goes_alone S d (opened o s) ts closing n h a = ends a

  -- and there is one
  none_closed : (S : Spare) (d : ℕ) (D : Desk R.State) (b : Act R) → opens R b ≡ false → Passes S d D b → D ≡ closed → ⊥
  unfolding table_at asking_table closing_table
  none_closed S d D (opening o) n h e = let z : ◌≡◌ {A = ℕ} 0 1 = cc in omega arith
  none_closed S d D (asking q) n h e = let k : true ≡ false = rw e at h.1.0 in let z : ◌≡◌ {A = ℕ} 0 1 = cc in omega arith
  none_closed S d D closing n h e = let k : true ≡ false = rw e at h.1.0 in let z : ◌≡◌ {A = ℕ} 0 1 = cc in omega arith

  -- A call x that is no opening joins the sittings gs; `here` is what its desk was.
  module _ (S : Spare) (here : Desk R.State) (x : Done R) (n : opens R x.act ≡ false)
      (h : Passes S x.desk here x.act) (e : answer_at R here x.act ≡ x.answer) where
    grown_alone : (g : Course R) → Alone R g.told here → Alone R (grown R g x).told (moved R here x.act)
    grown_alone g a = rw (← e) (goes_alone S x.desk here g.told x.act n h a)

    joined_each : (gs : List (Course R)) → EachAlone R gs → Stands R here (latest R x.desk gs) → EachAlone R (joined R x gs)
    unfolding joined latest
    joined_each [] all s = absurd (none_closed S x.desk here x.act n h s)
    joined_each (g ∷ gs) all s = go (eqb g.desk x.desk) s (joined_each gs all.1)
      where
        go : (b : Bool) → Stands R here (cond b (some g) (latest R x.desk gs)) → (Stands R here (latest R x.desk gs) → EachAlone R (joined R x gs))
            → EachAlone R (cond b (grown R g x ∷ gs) (g ∷ joined R x gs))
        go true s rest = ((moved R here x.act, grown_alone g s), all.1)
        go false s rest = (all.0, rest s)

    joined_here : (gs : List (Course R)) → Stands R here (latest R x.desk gs) → Stands R (moved R here x.act) (latest R x.desk (joined R x gs))
    unfolding joined latest
    joined_here [] s = absurd (none_closed S x.desk here x.act n h s)
    joined_here (g ∷ gs) s = go (eqb g.desk x.desk) refl s (joined_here gs)
      where
        go : (b : Bool) → eqb g.desk x.desk ≡ b → Stands R here (cond b (some g) (latest R x.desk gs))
            → (Stands R here (latest R x.desk gs) → Stands R (moved R here x.act) (latest R x.desk (joined R x gs)))
            → Stands R (moved R here x.act) (latest R x.desk (cond b (grown R g x ∷ gs) (g ∷ joined R x gs)))
        go true p s rest = rw p (grown_alone g s)
        go false p s rest = rw p (rest s)

  joined_away : (x : Done R) (d : ℕ) → eqb x.desk d ≡ false → (gs : List (Course R)) → latest R d (joined R x gs) ≡ latest R d gs
  unfolding joined latest
  joined_away x d away [] = rw away
  joined_away x d away (g ∷ gs) = go (eqb g.desk x.desk) refl (joined_away x d away gs)
    where
      go : (b : Bool) → eqb g.desk x.desk ≡ b → latest R d (joined R x gs) ≡ latest R d gs
          → latest R d (cond b (grown R g x ∷ gs) (g ∷ joined R x gs)) ≡ cond (eqb g.desk d) (some g) (latest R d gs)
      go true p rest = rw (eqb-true g.desk x.desk p, away)
      go false p rest = ap (cond (eqb g.desk d) (some g)) rest

  own_opening : (ρ : Room R.State) (gs : List (Course R)) (x : Done R) (o : Opening) → x.act ≡ opening o → OnTheirOwn R ρ gs
      → verdict R ρ (called R x) ≡ answered x.answer → OnTheirOwn R (shift R ρ (called R x)) (begun R x ∷ gs)
  unfolding latest
  own_opening ρ gs x o act own e = record { each = ((_, first), own.each); desks = λ d. go d (eqb x.desk d) refl }
    where
      first : Alone R (tell R x ∷ []) (moved R (ρ.at x.desk) x.act)
      first =
          let h = heard R ρ x.desk x.act x.answer e in
          rw (← h.1, act) (opens_alone_lem (spare ρ) x.desk (ρ.at x.desk) o (rw act at h.0))

      go : (d : ℕ) (b : Bool) → eqb x.desk d ≡ b → Stands R ((shift R ρ (called R x)).at d) (cond b (some (begun R x)) (latest R d gs))
      go d true p = rw (← (eqb-true x.desk d p), shift_here R ρ x.desk x.act) first
      go d false p = rw (shift_away R ρ x.desk x.act d (apart_sym x.desk d p)) (own.desks d)

  own_other : (ρ : Room R.State) (gs : List (Course R)) (x : Done R) → opens R x.act ≡ false → OnTheirOwn R ρ gs
      → verdict R ρ (called R x) ≡ answered x.answer → OnTheirOwn R (shift R ρ (called R x)) (joined R x gs)
  own_other ρ gs x n own e = record { each = joined_each (spare ρ) here x n h.0 h.1 gs own.each (own.desks x.desk); desks = λ d. go d (eqb x.desk d) refl }
    where
      here : Desk R.State
      here = ρ.at x.desk

      h : Passes (spare ρ) x.desk here x.act × (answer_at R here x.act ≡ x.answer)
      h = heard R ρ x.desk x.act x.answer e

      go : (d : ℕ) (b : Bool) → eqb x.desk d ≡ b → Stands R ((shift R ρ (called R x)).at d) (latest R d (joined R x gs))
      go d true p = rw (← (eqb-true x.desk d p), shift_here R ρ x.desk x.act) (joined_here (spare ρ) here x n h.0 h.1 gs (own.desks x.desk))
      go d false p = rw (shift_away R ρ x.desk x.act d (apart_sym x.desk d p), joined_away x d p gs) (own.desks d)

  own_one : (ρ : Room R.State) (gs : List (Course R)) (x : Done R) → OnTheirOwn R ρ gs → verdict R ρ (called R x) ≡ answered x.answer
      → OnTheirOwn R (shift R ρ (called R x)) (entered R x gs)
  unfolding entered
  own_one ρ gs x own e = go x.act refl
    where
      go : (a : Act R) → x.act ≡ a → OnTheirOwn R (shift R ρ (called R x)) (cond (opens R a) (begun R x ∷ gs) (joined R x gs))
      go (opening o) act = own_opening ρ gs x o act own e
      go (asking q) act = own_other ρ gs x (ap (opens R) act) own e
      go closing act = own_other ρ gs x (ap (opens R) act) own e

  -- Each sitting of a run is what its own calls make it, whatever its neighbours do, and each desk stands as its latest
  -- sitting, held alone, leaves it.
  pub alone : (K : Making) (cs : List (Call R)) → OnTheirOwn R (after R (new K) cs) (sittings R [] (struck R cs (outcomes R (new K) cs)))
  unfolding latest
  alone K cs = run_keeps R (OnTheirOwn R) own_one cs (new K) [] (record { each = tt; desks = λ d. refl })
