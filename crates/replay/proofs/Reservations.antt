-- The reservations of the open sittings never exceed K, so the room left and they make up K; only desks 0 to 7 are ever open.
-- Assumes nothing.
use Prim.Native.Nat.{ℕ, ◌+◌, ◌≤◌, ◌<◌}
use native.Mathlib.Omega.{arith}
use mathlib.Core.Path.{◌≡◌, refl}
use mathlib.Core.Bool.{false}
use mathlib.Core.List.{List, []}
use borrow.Author.Tests.{leb-false, ltb-false}
use Rattle.numbers.specs.Limits.{desks}
use Rattle.numbers.proofs.Sums.{sum_zero}
use Rattle.replay.specs.Room.{Making, Opening, Desk, closed, opened, Room, new, reserved, reservations, left}
use Rattle.replay.specs.Table.{answered, NoneApplies}
use Rattle.replay.specs.Machine.{Rules, Spare, spare, is_opened, above_room_left, Act, opening, asking, closing, Call, at_desk, opening_table, asking_table, closing_table, table_at, verdict, moved, shift}
use Rattle.replay.specs.Serial.{after}
use Rattle.replay.proofs.Desks.{put_all, put_sum}
use Rattle.replay.proofs.Swap.{heard, shift_less}
use Rattle.replay.proofs.Runs.{run_keeps}

-- a desk that is not open is closed
pub shut : {State : Type 0} (D : Desk State) → is_opened D ≡ false → D ≡ closed
shut closed h = refl
shut (opened o s) h = let z : ◌≡◌ {A = ℕ} 0 1 = cc in absurd (omega arith)

module _ (R : Rules) where
  -- an accepted act is at one of the eight desks
  pub one_of_eight : (S : Spare) (d : ℕ) (D : Desk R.State) (a : Act R) → NoneApplies (table_at R S d D a) → d < desks
  unfolding table_at opening_table asking_table closing_table
  one_of_eight S d D (opening o) h = leb-false desks d h.0
  one_of_eight S d D (asking q) h = leb-false desks d h.0
  one_of_eight S d D closing h = leb-false desks d h.0

  -- an accepted opening is at a closed desk and fits into the room left
  opening_fits : (S : Spare) (d : ℕ) (D : Desk R.State) (o : Opening) → NoneApplies (table_at R S d D (opening o))
      → (reserved D ≡ 0) × (reserved (moved R D (opening o)) ≤ S.free)
  unfolding table_at opening_table above_room_left reserved moved
  opening_fits S d D o h = rw (shut D h.1.0) (refl, ltb-false _ _ h.1.1.1.1.1.0)

  -- the reservations are within the room's size
  abbrev Within : Room R.State → Type 0
  Within ρ = reservations ρ ≤ ρ.made

  within_one : (ρ : Room R.State) (d : ℕ) (a : Act R) (x : R.Answer) → Within ρ → verdict R ρ (at_desk d a) ≡ answered x → Within (shift R ρ (at_desk d a))
  unfolding shift left
  within_one ρ d (opening o) x w e =
      let h = (heard R ρ d (opening o) x e).0 in
      let fits = opening_fits (spare ρ) d (ρ.at d) o h in
      let sums = put_sum reserved desks ρ.at d (moved R (ρ.at d) (opening o)) (one_of_eight (spare ρ) d (ρ.at d) (opening o) h) in
      omega arith
  within_one ρ d (asking q) x w e = let less = shift_less R ρ d (asking q) refl in omega arith
  within_one ρ d closing x w e = let less = shift_less R ρ d closing refl in omega arith

  -- no desk beyond the eight is open
  abbrev NoneBeyond : Room R.State → Type 0
  NoneBeyond ρ = (d : ℕ) → desks ≤ d → ρ.at d ≡ closed

  beyond_one : (ρ : Room R.State) (d : ℕ) (a : Act R) (x : R.Answer) → NoneBeyond ρ → verdict R ρ (at_desk d a) ≡ answered x → NoneBeyond (shift R ρ (at_desk d a))
  unfolding shift
  beyond_one ρ d a x none e =
      let near = one_of_eight (spare ρ) d (ρ.at d) a (heard R ρ d a x e).0 in
      put_all (λ f D. desks ≤ f → D ≡ closed) ρ.at d (moved R (ρ.at d) a) (λ far. absurd (omega arith)) none

  module _ (K : Making) (cs : List (Call R)) where
    made_kept : (after R (new K) cs).made ≡ K
    unfolding shift
    made_kept = run_keeps R (λ ρ gs. ρ.made ≡ K) (λ ρ gs x h e. h) cs (new K) [] refl

    -- after any run the reservations are at most K
    pub reservations_fit : reservations (after R (new K) cs) ≤ K
    unfolding reserved
    reservations_fit =
        let start : reservations {State = R.State} (new K) ≡ 0 = sum_zero desks (λ a l. refl) in
        let w = run_keeps R (λ ρ gs. Within ρ) (λ ρ gs x h e. within_one ρ x.desk x.act x.answer h e) cs (new K) [] (omega arith) in
        let k = made_kept in
        omega arith

    -- and the room left and they make up K
    pub room_adds_up : left (after R (new K) cs) + reservations (after R (new K) cs) ≡ K
    unfolding left
    room_adds_up = let f = reservations_fit in let k = made_kept in omega arith

    -- only desks 0 to 7 are ever open
    pub only_eight : (d : ℕ) → desks ≤ d → (after R (new K) cs).at d ≡ closed
    only_eight = run_keeps R (λ ρ gs. NoneBeyond ρ) (λ ρ gs x h e. beyond_one ρ x.desk x.act x.answer h e) cs (new K) [] (λ d far. refl)
