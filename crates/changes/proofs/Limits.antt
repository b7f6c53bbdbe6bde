-- The limits of an opening, both sides of each: "D 6 opens, 7 gets 5", a weight of 16 opens, 17 gets 20; "r equal to a room left above 0 opens, one more gets 7 (6 where the
-- room left is K)". In any room, at any of its desks that is closed. Assumes nothing.
use Prim.Native.Nat.{ℕ, suc, ◌≤◌, ◌<◌}
use native.Mathlib.Omega.{arith}
use mathlib.Core.Path.{◌≡◌, refl}
use mathlib.Core.Bool.{false}
use borrow.Author.Tests.{le-ltb}
use Rattle.numbers.specs.Limits.{fewest_symbols, most_symbols, deepest, most_weight, desks}
use Rattle.contexts.specs.Sitting.{Progress}
use Rattle.replay.specs.Room.{closed, Room, left, naming}
use Rattle.replay.specs.Table.{refused, answered}
use Rattle.replay.specs.Machine.{opening, at_desk, outside_limits, weight_outside, verdict}
use Rattle.rules.specs.Rules.{done, rules}
use Rattle.changes.proofs.Granting.{Ready, not_outside, not_heavy, outside, heavy, above_room, above_left, granted}

module _ (ρ : Room Progress) (d : ℕ) (near : d < desks) (shut : ρ.at d ≡ closed) (A : ℕ) (few : fewest_symbols ≤ A) (most : A ≤ most_symbols) where
  in_limits : (D weight r : ℕ) → D ≤ deepest → outside_limits (naming A D weight r) ≡ false
  in_limits D weight r h = not_outside (naming A D weight r) (record { fewest = few; most = most; deep = h })

  ready : (D weight r : ℕ) → D ≤ deepest → weight ≤ most_weight → Ready ρ d (naming A D weight r)
  ready D weight r h w = record { desk = near; shut = shut; limits = in_limits D weight r h; weight = not_heavy (naming A D weight r) w }

  -- a reservation that the room left holds
  fits : (D weight r : ℕ) → D ≤ deepest → weight ≤ most_weight → 1 ≤ r → r ≤ left ρ → verdict rules ρ (at_desk d (opening (naming A D weight r))) ≡ answered done
  unfolding left
  fits D weight r h w some in_left = granted ρ d (naming A D weight r) (record { ready = ready D weight r h w; some = some; in_room = omega arith; fits = in_left })

  -- D 6 opens
  pub six_opens : (weight r : ℕ) → weight ≤ most_weight → 1 ≤ r → r ≤ left ρ → verdict rules ρ (at_desk d (opening (naming A 6 weight r))) ≡ answered done
  six_opens weight r w some in_left = fits 6 weight r (omega arith) w some in_left

  -- 7 gets 5, whatever the weight
  pub seven_gets_5 : (weight r : ℕ) → verdict rules ρ (at_desk d (opening (naming A 7 weight r))) ≡ refused 5
  unfolding outside_limits
  seven_gets_5 weight r = outside ρ d (naming A 7 weight r) near shut (rw (le-ltb A fewest_symbols few, le-ltb most_symbols A most))

  -- a weight of 0 opens, and one of 16
  pub zero_opens : (D r : ℕ) → D ≤ deepest → 1 ≤ r → r ≤ left ρ → verdict rules ρ (at_desk d (opening (naming A D 0 r))) ≡ answered done
  zero_opens D r h some in_left = fits D 0 r h (omega arith) some in_left

  pub sixteen_opens : (D r : ℕ) → D ≤ deepest → 1 ≤ r → r ≤ left ρ → verdict rules ρ (at_desk d (opening (naming A D 16 r))) ≡ answered done
  sixteen_opens D r h some in_left = fits D 16 r h (omega arith) some in_left

  -- 17 gets 20, whatever the reservation
  pub seventeen_gets_20 : (D r : ℕ) → D ≤ deepest → verdict rules ρ (at_desk d (opening (naming A D 17 r))) ≡ refused 20
  unfolding weight_outside
  seventeen_gets_20 D r h = heavy ρ d (naming A D 17 r) near shut (in_limits D 17 r h) refl

  module _ (D weight : ℕ) (h : D ≤ deepest) (w : weight ≤ most_weight) where
    -- r equal to a room left above 0 opens
    pub all_left_opens : 1 ≤ left ρ → verdict rules ρ (at_desk d (opening (naming A D weight (left ρ)))) ≡ answered done
    all_left_opens some = fits D weight (left ρ) h w some (omega arith)

    -- one more gets 7 ..
    pub one_more_gets_7 : left ρ < ρ.made → verdict rules ρ (at_desk d (opening (naming A D weight (suc (left ρ))))) ≡ refused 7
    one_more_gets_7 less = above_left ρ d (naming A D weight (suc (left ρ))) (ready D weight (suc (left ρ)) h w) (omega arith) less (omega arith)

    -- .. and 6 where the room left is K
    pub one_more_gets_6 : left ρ ≡ ρ.made → verdict rules ρ (at_desk d (opening (naming A D weight (suc (left ρ))))) ≡ refused 6
    one_more_gets_6 whole = above_room ρ d (naming A D weight (suc (left ρ))) (ready D weight (suc (left ρ)) h w) (omega arith) (omega arith)
