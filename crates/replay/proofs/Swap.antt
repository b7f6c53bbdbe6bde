-- Two calls at different desks, the later of them no opening, may be exchanged: they answer the same and leave the same room.
-- Assumes nothing.
use Prim.Native.Nat.{ℕ, ◌≤◌}
use native.Mathlib.Nat.{le_refl}
use native.Mathlib.Omega.{arith}
use mathlib.Core.Path.{◌≡◌, refl, ◌∙◌, ap}
use mathlib.Core.Bool.{Bool, true, false}
use lib.Dec.{eqb}
use borrow.Author.Tests.{ltb-true, ltb-false}
use Rattle.numbers.specs.Limits.{desks}
use Rattle.numbers.proofs.Sums.{sum_mono}
use Rattle.replay.specs.Room.{Opening, Desk, closed, opened, Room, reserved, reservations, left}
use Rattle.replay.specs.Table.{answered, NoneApplies}
use Rattle.replay.specs.Machine.{Rules, Spare, spare, zero_or_above_k, above_room_left, Act, opening, asking, closing, at_desk, opening_table, table_at, table_of, answer_at, answer_of, verdict, moved, shift}
use Rattle.replay.specs.Serial.{opens}
use Rattle.replay.proofs.Tables.{none_answers, answers_none}
use Rattle.replay.proofs.Desks.{apart_sym, put_same, put_other, put_swap, put_all}

-- as much room or more
pub record Wider (S W : Spare) : Type 0 where
  pub equal : S.size ≡ W.size
  pub more : S.free ≤ W.free

still_fits : (S W : Spare) (o : Opening) → Wider S W → above_room_left S o ≡ false → above_room_left W o ≡ false
unfolding above_room_left
still_fits S W o h e = go (above_room_left W o) refl
  where
    go : (b : Bool) → above_room_left W o ≡ b → b ≡ false
    go true above = absurd (omega (arith, ltb-true, ltb-false))
    go false fits = refl

module _ (R : Rules) where
  -- what is no opening is judged by its desk alone
  pub table_still : (S W : Spare) (d : ℕ) (D : Desk R.State) (a : Act R) → opens R a ≡ false → table_at R S d D a ≡ table_at R W d D a
  unfolding table_at
  table_still S W d D (opening o) n = let z : ◌≡◌ {A = ℕ} 0 1 = cc in absurd (omega arith)
  table_still S W d D (asking q) n = refl
  table_still S W d D closing n = refl

  -- more room left refuses nothing more
  table_wider : (S W : Spare) (d : ℕ) (D : Desk R.State) (a : Act R) → Wider S W → NoneApplies (table_at R S d D a) → NoneApplies (table_at R W d D a)
  unfolding table_at opening_table zero_or_above_k
  table_wider S W d D (opening o) w h =
      (h.0, (h.1.0, (h.1.1.0, (h.1.1.1.0, (rw (← w.equal) h.1.1.1.1.0, (still_fits S W o w h.1.1.1.1.1.0, tt))))))
  table_wider S W d D (asking q) w h = h
  table_wider S W d D closing w h = h

  -- an act that is no opening reserves nothing more
  pub moved_less : (D : Desk R.State) (a : Act R) → opens R a ≡ false → reserved (moved R D a) ≤ reserved D
  unfolding reserved moved
  moved_less closed (opening p) n = let z : ◌≡◌ {A = ℕ} 0 1 = cc in absurd (omega arith)
  moved_less closed (asking q) n = le_refl _
  moved_less closed closing n = le_refl _
  moved_less (opened o s) (opening p) n = le_refl _
  moved_less (opened o s) (asking q) n = le_refl _
  moved_less (opened o s) closing n = omega arith

  pub shift_less : (ρ : Room R.State) (d : ℕ) (a : Act R) → opens R a ≡ false
      → reservations (shift R ρ (at_desk d a)) ≤ reservations ρ
  unfolding shift
  shift_less ρ d a n =
      sum_mono desks (λ e l. put_all (λ e v. reserved v ≤ reserved (ρ.at e)) ρ.at d (moved R (ρ.at d) a) (moved_less (ρ.at d) a n) (λ e. le_refl _) e)

  shift_wider : (ρ : Room R.State) (d : ℕ) (a : Act R) → opens R a ≡ false → Wider (spare ρ) (spare (shift R ρ (at_desk d a)))
  unfolding left shift
  shift_wider ρ d a n = let h = shift_less ρ d a n in record { equal = refl; more = omega arith }

  -- an accepted call passed its table, and answers what its desk does
  pub heard : (ρ : Room R.State) (d : ℕ) (a : Act R) (x : R.Answer) → verdict R ρ (at_desk d a) ≡ answered x
      → NoneApplies (table_at R (spare ρ) d (ρ.at d) a) × (answer_at R (ρ.at d) a ≡ x)
  unfolding verdict table_of answer_of
  heard ρ d a x e = answers_none (table_at R (spare ρ) d (ρ.at d) a) (answer_at R (ρ.at d) a) x e

  said : (ρ : Room R.State) (d : ℕ) (a : Act R) (x : R.Answer) → NoneApplies (table_at R (spare ρ) d (ρ.at d) a) → answer_at R (ρ.at d) a ≡ x
      → verdict R ρ (at_desk d a) ≡ answered x
  unfolding verdict table_of answer_of
  said ρ d a x h e = none_answers (table_at R (spare ρ) d (ρ.at d) a) (answer_at R (ρ.at d) a) h ∙ ap answered e

  pub shift_away : (ρ : Room R.State) (d : ℕ) (a : Act R) (e : ℕ) → eqb e d ≡ false → (shift R ρ (at_desk d a)).at e ≡ ρ.at e
  unfolding shift
  shift_away ρ d a e h = put_other ρ.at d _ e h

  pub shift_here : (ρ : Room R.State) (d : ℕ) (a : Act R) → (shift R ρ (at_desk d a)).at d ≡ moved R (ρ.at d) a
  unfolding shift
  shift_here ρ d a = put_same ρ.at d _

  -- An act a at desk d and then b, no opening, at desk e: the other way round they answer the same and leave the same room.
  module _ (ρ : Room R.State) (d e : ℕ) (a b : Act R) (x y : R.Answer) (apart : eqb d e ≡ false) (still : opens R b ≡ false)
      (first : verdict R ρ (at_desk d a) ≡ answered x) (second : verdict R (shift R ρ (at_desk d a)) (at_desk e b) ≡ answered y) where
    pub swap_first : verdict R ρ (at_desk e b) ≡ answered y
    swap_first =
        let h = heard (shift R ρ (at_desk d a)) e b y second in
        let here = shift_away ρ d a e (apart_sym d e apart) in
        said ρ e b y (rw (table_still (spare ρ) (spare (shift R ρ (at_desk d a))) e (ρ.at e) b still) (rw here at h.0)) (rw here at h.1)

    pub swap_second : verdict R (shift R ρ (at_desk e b)) (at_desk d a) ≡ answered x
    swap_second =
        let h = heard ρ d a x first in
        let here = shift_away ρ e b d apart in
        said (shift R ρ (at_desk e b)) d a x (rw here (table_wider (spare ρ) _ d (ρ.at d) a (shift_wider ρ e b still) h.0)) (rw here h.1)

    pub swap_room : shift R (shift R ρ (at_desk e b)) (at_desk d a) ≡ shift R (shift R ρ (at_desk d a)) (at_desk e b)
    unfolding shift
    swap_room =
        let there = shift_away ρ e b d apart in
        let here = shift_away ρ d a e (apart_sym d e apart) in
        rw (there, here, put_swap ρ.at d e)
