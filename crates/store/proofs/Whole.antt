-- The whole test, as the code goes through it. Assumes nothing.
use mathlib.Core.Path.{◌≡◌, refl, ap, ◌∙◌}
use mathlib.Core.Bool.{Bool, true, false, ◌&&◌, and-false}
use mathlib.Core.List.{List}
use Prim.Native.Nat.{ℕ, ◌-◌, ◌*◌, ◌≤◌, ◌<◌}
use native.Mathlib.Omega.{arith}
use lib.Dec.{T, leb, leb→le, le→leb}
use lib.ListN.{length, take, drop, length-drop}
use Rattle.numbers.specs.Limits.{desks, most_room}
use Rattle.numbers.specs.Sum.{sum}
use Rattle.numbers.specs.Every.{every, all}
use Rattle.numbers.proofs.Tests.{both, left, right, of_true}
use Rattle.numbers.proofs.Every.{every_at}
use Rattle.records.specs.Records.{keys, rises, width}
use Rattle.records.proofs.Lent.{tail_lent}
use Rattle.store.specs.Layout.{header_size, store_size, room, used, is_open, symbols_at, records_in}
use Rattle.store.specs.Sound.{frame_ok, desk_ok, held_by, reserved_at, record_ok, records_ok, soundb}
use Rattle.store.specs.Walk.{walked, start, passb}
use Rattle.store.proofs.Desks.{desk_stands}
use Rattle.store.proofs.Walking.{walk_is}
use Rattle.store.proofs.Declared.{fits_are}

-- the pass is the records' test and the desks'
pass_both : (s : List ℕ) (rs : List (List ℕ)) → passb s rs ≡ records_ok s rs && every desks (desk_ok s rs)
unfolding passb records_ok
pass_both s rs = go (every desks (desk_ok s rs)) refl
  where
    go : (t : Bool) → every desks (desk_ok s rs) ≡ t → (walked s 0 start start rs && t) ≡ ((rises 0 (keys rs) && all (record_ok s rs) rs) && t)
    go false e = and-false (walked s 0 start start rs) ∙ rw (and-false (rises 0 (keys rs) && all (record_ok s rs) rs))
    go true e =
        let some : (d : ℕ) → d < desks → T (is_open s d) → 1 ≤ symbols_at s d =
        λ d l o. (let h = desk_stands s d (held_by d rs) o (every_at desks (desk_ok s rs) (of_true (every desks (desk_ok s rs)) e) d l) in omega (arith, h.fewest)) in
        ap (λ (b : Bool). b && true) (walk_is s rs ∙ ap (λ (b : Bool). rises 0 (keys rs) && b) (fits_are s rs some))

-- THEOREM. The declared test is the frame, one pass over the records, and the reservations
pub pass_is : (s : List ℕ) → frame_ok s && (passb s (records_in s) && leb (sum desks (reserved_at s)) (room s)) ≡ soundb s
unfolding soundb
pass_is s = ap (λ (b : Bool). frame_ok s && (b && leb (sum desks (reserved_at s)) (room s))) (pass_both s (records_in s))

-- ---- the frame

pub record Frame (s : List ℕ) : Type 0 where
  pub some : 1 ≤ room s
  pub most : room s ≤ most_room
  pub long : store_size (room s) ≤ length s
  pub few : used s ≤ room s

pub frame : (s : List ℕ) → T (frame_ok s) → Frame s
unfolding frame_ok
frame s t =
    let one = right (leb 1 (room s)) _ t in
    let two = right (leb (room s) most_room) _ one in
    record {
      some = leb→le 1 (room s) (left (leb 1 (room s)) _ t);
      most = leb→le (room s) most_room (left (leb (room s) most_room) _ one);
      long = leb→le (store_size (room s)) (length s) (left (leb (store_size (room s)) (length s)) _ two);
      few = leb→le (used s) (room s) (right (leb (store_size (room s)) (length s)) _ two);
    }

pub frame_of : (s : List ℕ) → Frame s → T (frame_ok s)
unfolding frame_ok
frame_of s f =
    both (leb 1 (room s)) _ (le→leb 1 (room s) f.some)
    (both (leb (room s) most_room) _ (le→leb (room s) most_room f.most)
    (both (leb (store_size (room s)) (length s)) _ (le→leb (store_size (room s)) (length s) f.long) (le→leb (used s) (room s) f.few)))

-- the records in use lie within the part after the header
pub body_long : (s : List ℕ) → Frame s → width * used s ≤ length (take (length s - header_size) (drop header_size s))
body_long s f = rw (tail_lent header_size s, length-drop header_size s) (omega (arith, f.long, f.few))
