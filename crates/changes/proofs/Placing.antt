-- Records that were fed, and a header that was noted, are a store that was fed. Assumes nothing.
use mathlib.Core.Path.{◌≡◌, sym, ap, ap₂, ◌∙◌}
use mathlib.Core.List.{List, ◌++◌}
use Prim.Native.Nat.{ℕ, ◌+◌, ◌*◌, ◌≤◌}
use native.Mathlib.Omega.{arith}
use lib.ListN.{length, take, drop, length-append, length-drop, get_or-append}
use lib.Seq.{get_or-take, drop_at, drop-drop, length-take-le}
use Rattle.contexts.specs.Sitting.{Sample}
use Rattle.records.specs.Records.{width, records}
use Rattle.records.specs.Bumped.{Written}
use Rattle.records.proofs.Lent.{agree_later}
use Rattle.recording.proofs.Settling.{written_count}
use Rattle.store.specs.Layout.{header_size, store_size, room, desk_start, size_field, recent_field, records_in}
use Rattle.store.proofs.Passing.{header_long}
use Rattle.changes.specs.FedStore.{FedStore, Acceptable, records_fed}
use Rattle.changes.specs.Noted.{noted, Places}
use Rattle.changes.proofs.Filling.{room_enough}
use Rattle.changes.proofs.Noting.{noted_used, noted_drop}
use Rattle.changes.proofs.Heading.{Headed, places, done_long, room_stays, others_stay, limits_stay, sizes_after, slots_after}

-- the store with its records fed has its header
module _ (s ys : List ℕ) (enough : header_size ≤ length s) (long : length ys ≡ length (drop header_size s)) where
  front_long : length (take header_size s) ≡ header_size
  front_long = length-take-le header_size s enough

  pub headed : Headed s (take header_size s ++ ys)
  headed = record {
    enough = enough;
    long = omega (arith, length-append (take header_size s) ys, front_long, long, length-drop header_size s, enough);
    header = λ k h. get_or-append (take header_size s) ys 0 k (omega (arith, front_long)) ∙ get_or-take header_size s k 0 h;
  }

module _ (s : List ℕ) (d : ℕ) (i : Sample) (a : ℕ) (p : Acceptable s d i a) (m : ℕ) (ys : List ℕ) (long : length ys ≡ length (drop header_size s))
    (w : Written (records_fed s d i a) m (drop header_size s) ys) where
  abbrev counted : List ℕ
  counted = take header_size s ++ ys

  -- .. and its header noted
  abbrev done : List ℕ
  done = noted m (desk_start d + size_field i) (desk_start d + recent_field i) a counted

  enough : header_size ≤ length s
  enough = header_long s p.sound

  has_header : Headed s counted
  has_header = headed s ys enough long

  there : Places (desk_start d + size_field i) (desk_start d + recent_field i) counted
  there = places s counted has_header d p.at_open.desk i m a

  body : drop header_size done ≡ ys
  body = noted_drop m _ _ a counted there ∙ drop_at (take header_size s) ys header_size (front_long s ys enough long)

  records_after : records_in done ≡ records_fed s d i a
  unfolding records_in
  records_after = ap₂ records (noted_used m _ _ a counted there) body ∙ w.live

  past_kept : drop (store_size (room s)) done ≡ drop (store_size (room s)) s
  past_kept =
      let few : width * m ≤ width * room s = omega (arith, written_count _ m (drop header_size s) ys w, room_enough s d i a p) in
      sym (drop-drop (width * room s) header_size done)
      ∙ ap (drop (width * room s)) body
      ∙ agree_later (width * m) (width * room s) ys (drop header_size s) few w.past
      ∙ drop-drop (width * room s) header_size s

  -- THEOREM. What the code leaves is the store fed
  pub fed_store_lem : FedStore s done d i a
  fed_store_lem =
      let l = p.at_open.desk in
      record {
        room_same = room_stays s counted has_header d l i m a;
        others_same = others_stay s counted has_header d l i m a;
        limits_same = limits_stay s counted has_header d l i m a;
        sizes = sizes_after s counted has_header d l i m a;
        slots = slots_after s counted has_header d l i m a;
        records_fed_holds = records_after;
        past_same = past_kept;
        length_same = done_long s counted has_header d l i m a;
      }
