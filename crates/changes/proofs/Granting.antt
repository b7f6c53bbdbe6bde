-- The table of an opening in any room: which refusal it gets, and when it is granted. Assumes nothing.
use Prim.Native.Nat.{ℕ, ◌≤◌, ◌<◌}
use native.Mathlib.Omega.{arith}
use mathlib.Core.Path.{◌≡◌, refl}
use mathlib.Core.Bool.{Bool, true, false, ◌||◌}
use borrow.Author.Tests.{le-leb, lt-leb, le-ltb, lt-ltb, eq-eqb, ne_eqb, ltb-false}
use lib.Dec.{ltb}
use Rattle.numbers.specs.Limits.{fewest_symbols, most_symbols, deepest, most_weight, desks}
use Rattle.contexts.specs.Sitting.{Progress}
use Rattle.replay.specs.Room.{Opening, closed, opened, Room, left}
use Rattle.replay.specs.Table.{refused, answered, verdict_of}
use Rattle.replay.specs.Machine.{opening, at_desk, outside_limits, weight_outside, zero_or_above_k, above_room_left, opening_table, table_at, table_of, answer_at, answer_of, verdict}
use Rattle.rules.specs.Rules.{done, rules}

-- ---- A and D within their limits

pub record Limited (o : Opening) : Type 0 where
  pub fewest : fewest_symbols ≤ o.symbols
  pub most : o.symbols ≤ most_symbols
  pub deep : o.depth ≤ deepest

pub not_outside : (o : Opening) → Limited o → outside_limits o ≡ false
unfolding outside_limits
not_outside o h = rw (le-ltb o.symbols fewest_symbols h.fewest, le-ltb most_symbols o.symbols h.most, le-ltb deepest o.depth h.deep)

none_of : (p q r : Bool) → (p || q || r) ≡ false → (p ≡ false) × (q ≡ false) × (r ≡ false)
none_of false false false e = (refl, refl, refl)
none_of false false true e = let z : ◌≡◌ {A = ℕ} 0 1 = cc in absurd (omega arith)
none_of false true r e = let z : ◌≡◌ {A = ℕ} 0 1 = cc in absurd (omega arith)
none_of true q r e = let z : ◌≡◌ {A = ℕ} 0 1 = cc in absurd (omega arith)

pub limited : (o : Opening) → outside_limits o ≡ false → Limited o
unfolding outside_limits
limited o e =
    let n = none_of (ltb o.symbols fewest_symbols) (ltb most_symbols o.symbols) (ltb deepest o.depth) e in
    record { fewest = ltb-false _ _ n.0; most = ltb-false _ _ n.1; deep = ltb-false _ _ n.2 }

-- .. and the weight
pub not_heavy : (o : Opening) → o.weight ≤ most_weight → weight_outside o ≡ false
unfolding weight_outside
not_heavy o h = le-ltb most_weight o.weight h

pub light : (o : Opening) → weight_outside o ≡ false → o.weight ≤ most_weight
unfolding weight_outside
light o e = ltb-false most_weight o.weight e

-- ---- the way through the table

-- the reservation is judged: at one of the eight desks, which is closed, for limits that hold
pub record Ready (ρ : Room Progress) (d : ℕ) (o : Opening) : Type 0 where
  pub desk : d < desks
  pub shut : ρ.at d ≡ closed
  pub limits : outside_limits o ≡ false
  pub weight : weight_outside o ≡ false

-- the opening is granted
pub record Granted (ρ : Room Progress) (d : ℕ) (o : Opening) : Type 0 where
  pub ready : Ready ρ d o
  pub some : 1 ≤ o.reserve
  pub in_room : o.reserve ≤ ρ.made
  pub fits : o.reserve ≤ left ρ

module _ (ρ : Room Progress) (d : ℕ) (o : Opening) where
  -- 2: "desk number above 7"
  pub no_desk : desks ≤ d → verdict rules ρ (at_desk d (opening o)) ≡ refused 2
  unfolding verdict table_of table_at opening_table verdict_of
  no_desk far = rw (le-leb desks d far)

  -- 3: "opening a desk that is open"
  pub already_open : d < desks → (p : Opening) (q : Progress) → ρ.at d ≡ opened p q → verdict rules ρ (at_desk d (opening o)) ≡ refused 3
  unfolding verdict table_of table_at opening_table verdict_of
  already_open l p q e = rw (lt-leb desks d l, e)

  -- 5: "A or D outside its limits, at opening"
  pub outside : d < desks → ρ.at d ≡ closed → outside_limits o ≡ true → verdict rules ρ (at_desk d (opening o)) ≡ refused 5
  unfolding verdict table_of table_at opening_table verdict_of
  outside l e out = rw (lt-leb desks d l, e, out)

  -- 20: "weight outside its limits .. after 5 and before 6"
  pub heavy : d < desks → ρ.at d ≡ closed → outside_limits o ≡ false → weight_outside o ≡ true → verdict rules ρ (at_desk d (opening o)) ≡ refused 20
  unfolding verdict table_of table_at opening_table verdict_of
  heavy l e within out = rw (lt-leb desks d l, e, within, out)

  -- 6: "reservation 0 ..
  pub zero_reserved : Ready ρ d o → o.reserve ≡ 0 → verdict rules ρ (at_desk d (opening o)) ≡ refused 6
  unfolding verdict table_of table_at opening_table verdict_of zero_or_above_k
  zero_reserved w z = rw (lt-leb desks d w.desk, w.shut, w.limits, w.weight, eq-eqb o.reserve 0 z)

  -- .. or above K"
  pub above_room : Ready ρ d o → 1 ≤ o.reserve → ρ.made < o.reserve → verdict rules ρ (at_desk d (opening o)) ≡ refused 6
  unfolding verdict table_of table_at opening_table verdict_of zero_or_above_k
  above_room w z m = rw (lt-leb desks d w.desk, w.shut, w.limits, w.weight, ne_eqb o.reserve 0 (λ q. omega arith), lt-ltb ρ.made o.reserve m)

  -- 7: "reservation above the room left"
  pub above_left : Ready ρ d o → 1 ≤ o.reserve → o.reserve ≤ ρ.made → left ρ < o.reserve → verdict rules ρ (at_desk d (opening o)) ≡ refused 7
  unfolding verdict table_of table_at opening_table verdict_of zero_or_above_k above_room_left
  above_left w z m k =
      rw (lt-leb desks d w.desk, w.shut, w.limits, w.weight, ne_eqb o.reserve 0 (λ q. omega arith), le-ltb ρ.made o.reserve m, lt-ltb (left ρ) o.reserve k)

  -- done
  pub granted : Granted ρ d o → verdict rules ρ (at_desk d (opening o)) ≡ answered done
  unfolding verdict table_of table_at opening_table verdict_of zero_or_above_k above_room_left answer_of answer_at
  granted g =
      let w = g.ready in
      rw (lt-leb desks d w.desk, w.shut, w.limits, w.weight, ne_eqb o.reserve 0 (λ q. omega (arith, g.some)), le-ltb ρ.made o.reserve g.in_room, le-ltb (left ρ) o.reserve g.fits)
