-- A turn of the pass: what holds before each record, and what the records' and the desks' tests are at its end. Assumes nothing.
use mathlib.Core.Path.{◌≡◌, refl, sym, ap, ◌∙◌}
use mathlib.Core.Bool.{Bool, true, false}
use mathlib.Core.List.{List, []}
use Prim.Native.Nat.{ℕ, ◌+◌, ◌*◌, ◌≤◌, ◌<◌}
use native.Mathlib.Omega.{arith}
use borrow.Author.Tests.{eq-eqb, ne_eqb, eqb-true, eqb-false}
use lib.Dec.{eqb}
use lib.ListN.{length, drop, get_or, set, replicate, length-set}
use lib.Seq.{get_or-set_same, get_or-set_other}
use Rattle.numbers.specs.Limits.{desks, most_room}
use Rattle.numbers.specs.Sum.{one}
use Rattle.numbers.specs.Every.{every}
use Rattle.numbers.proofs.Tests.{of_true}
use Rattle.numbers.proofs.Lists.{zeros_at}
use Rattle.numbers.proofs.Every.{every_cong}
use Rattle.contexts.specs.Keys.{desk_of, len_of}
use Rattle.contexts.specs.Sitting.{first, second}
use Rattle.records.specs.Records.{width, records, key}
use Rattle.records.proofs.Parts.{length_parts}
use Rattle.store.specs.Layout.{header_size, total_of}
use Rattle.store.specs.Sound.{held_by, desk_test}
use Rattle.store.specs.Walk.{walked, step_ok, seen_mark, start, tally_ok, passb}
use Rattle.store.proofs.Walking.{step_desk}
use Rattle.soundness.proofs.OneRecord.{held_end, held_step, walk_bad, walk_end, walk_step}

pub record Turn (s body : List ℕ) (n : ℕ) (p q tally : List ℕ) (lo i : ℕ) : Type 0 where
  pub inside : i ≤ n
  pub header : header_size ≤ length s
  pub body_long : width * n ≤ length body
  pub few : n ≤ most_room
  pub long_p : length p ≡ 9
  pub long_q : length q ≡ 9
  pub long_t : length tally ≡ desks
  pub small : (d : ℕ) → get_or tally d 0 ≤ i
  pub tallied : (d : ℕ) → d < desks → get_or tally d 0 + held_by d (drop i (records n body)) ≡ held_by d (records n body)
  pub same : walked s lo p q (drop i (records n body)) ≡ walked s 0 start start (records n body)

pub turn_start : (s body : List ℕ) (n : ℕ) → header_size ≤ length s → width * n ≤ length body → n ≤ most_room → Turn s body n (replicate 9 0) (replicate 9 0) (replicate 8 0) 0 0
turn_start s body n h b f = record {
  inside = omega arith;
  header = h;
  body_long = b;
  few = f;
  long_p = refl;
  long_q = refl;
  long_t = refl;
  small = λ d. omega (arith, zeros_at 8 d);
  tallied = λ d u. omega (arith, zeros_at 8 d);
  same = refl;
}

module _ (s body : List ℕ) (n : ℕ) (p q tally : List ℕ) (lo i : ℕ) (t : Turn s body n p q tally lo i) where
  inside_records : i < n → i < length (records n body)
  inside_records h = rw (length_parts width n body) h

  -- the records before have passed, and so has this one
  pub turn_next : i < n → (r : List ℕ) → r ≡ get_or (records n body) i []
      → step_ok s lo (get_or p (len_of (key r)) 0) (get_or q (len_of (key r)) 0) r ≡ true
      → (x y : ℕ) → x ≡ seen_mark (key r) (total_of first r) → y ≡ seen_mark (key r) (total_of second r)
      → Turn s body n (set p (len_of (key r) + 1) x) (set q (len_of (key r) + 1) y) (set tally (desk_of (key r)) (get_or tally (desk_of (key r)) 0 + 1)) (key r + 1) (i + 1)
  turn_next h r e good x y ex ey = record {
    inside = h';
    header = t.header;
    body_long = t.body_long;
    few = t.few;
    long_p = length-set p _ x ∙ t.long_p;
    long_q = length-set q _ y ∙ t.long_q;
    long_t = length-set tally _ _ ∙ t.long_t;
    small = λ a. small_next a (eqb a d) refl;
    tallied = λ a u. tallied_next a u (eqb a d) refl;
    same = rw (ex, ey) (sym (walk_step (records n body) i s lo p q (inside_records h) r e good) ∙ t.same);
  }
    where
      d : ℕ
      d = desk_of (key r)

      h' : i + 1 ≤ n
      h' = omega arith

      low : d < desks
      low = step_desk s lo (get_or p (len_of (key r)) 0) (get_or q (len_of (key r)) 0) r (of_true _ good)

      here : (a : ℕ) → held_by a (drop i (records n body)) ≡ one (eqb d a) + held_by a (drop (i + 1) (records n body))
      here a = held_step (records n body) i a (inside_records h) ∙ ap (λ (z : List ℕ). one (eqb (desk_of (key z)) a) + held_by a (drop (i + 1) (records n body))) (sym e)

      in_place : get_or (set tally d (get_or tally d 0 + 1)) d 0 ≡ get_or tally d 0 + 1
      in_place = get_or-set_same tally d (get_or tally d 0 + 1) 0 (omega (arith, low, t.long_t))

      elsewhere : (a : ℕ) → (a ≡ d → ⊥) → get_or (set tally d (get_or tally d 0 + 1)) a 0 ≡ get_or tally a 0
      elsewhere a o = get_or-set_other tally d a (get_or tally d 0 + 1) 0 o

      small_next : (a : ℕ) (u : Bool) → eqb a d ≡ u → get_or (set tally d (get_or tally d 0 + 1)) a 0 ≤ i + 1
      small_next a true g = rw (eqb-true a d g, in_place) (omega (arith, t.small d))
      small_next a false g = rw (elsewhere a (eqb-false a d g)) (omega (arith, t.small a))

      tallied_next : (a : ℕ) → a < desks → (u : Bool) → eqb a d ≡ u
          → get_or (set tally d (get_or tally d 0 + 1)) a 0 + held_by a (drop (i + 1) (records n body)) ≡ held_by a (records n body)
      tallied_next a u true g =
          let here-one : one (eqb d a) ≡ 1 = ap one (eq-eqb d a (sym (eqb-true a d g))) in
          let at : get_or (set tally d (get_or tally d 0 + 1)) a 0 ≡ get_or tally a 0 + 1 = rw (eqb-true a d g) in_place in
          omega (arith, here a, t.tallied a u)
      tallied_next a u false g =
          let none : one (eqb d a) ≡ 0 = ap one (ne_eqb d a (λ o. eqb-false a d g (sym o))) in
          omega (arith, here a, t.tallied a u, elsewhere a (eqb-false a d g))

  -- a record that fails fails the pass
  pub turn_bad : i < n → (r : List ℕ) → r ≡ get_or (records n body) i []
      → step_ok s lo (get_or p (len_of (key r)) 0) (get_or q (len_of (key r)) 0) r ≡ false → false ≡ passb s (records n body)
  unfolding passb
  turn_bad h r e bad =
      let none : walked s 0 start start (records n body) ≡ false = sym t.same ∙ walk_bad (records n body) i s lo p q (inside_records h) r e bad in
      rw none

  -- at the end the tally has the number of each desk's records, and the desks' tests decide
  pub turn_end : i ≡ n → every desks (tally_ok s tally) ≡ passb s (records n body)
  unfolding passb
  turn_end e =
      let last : i ≡ length (records n body) = e ∙ sym (length_parts width n body) in
      let done : walked s 0 start start (records n body) ≡ true = sym t.same ∙ walk_end (records n body) i s lo p q last in
      let many : (d : ℕ) → d < desks → get_or tally d 0 ≡ held_by d (records n body) = λ d u. omega (arith, t.tallied d u, held_end (records n body) i d last) in
      rw done (every_cong desks (λ d u. ap (desk_test s d) (many d u)))
