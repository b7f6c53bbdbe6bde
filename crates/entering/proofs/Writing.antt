-- An accepted feed as the code writes it: the records part lent and come back, then the header noted; or the header alone. Assumes nothing.
use mathlib.Core.Path.{◌≡◌, refl, sym, ap, ◌∙◌, subst}
use mathlib.Core.Bool.{true, false}
use mathlib.Core.List.{List, ◌++◌}
use Prim.Native.Nat.{ℕ, ◌+◌, ◌-◌, ◌≤◌, ◌<◌}
use native.Mathlib.Omega.{arith}
use lib.ListN.{length, take, drop, take-append-drop}
use Rattle.numbers.specs.Limits.{longest, desks, most_room}
use Rattle.contexts.specs.Sitting.{sample_of}
use Rattle.records.specs.Records.{records}
use Rattle.records.specs.Bumped.{Written}
use Rattle.records.specs.Fed.{fed_to, fed, Feedable}
use Rattle.records.specs.Located.{Located, Ready}
use Rattle.records.proofs.Lent.{tail_lent, tail_back}
use Rattle.recording.proofs.Settling.{written_count}
use Rattle.store.specs.Layout.{header_size, used, desk_start, size_field, recent_field, size_at, records_in}
use Rattle.store.proofs.Standing.{sound_stands}
use Rattle.store.proofs.Passing.{header_long}
use Rattle.changes.specs.FedStore.{FedStore, Acceptable, recent_at, is_counted, records_fed}
use Rattle.changes.specs.Noted.{noted}
use Rattle.changes.proofs.Numbering.{size_number}
use Rattle.changes.proofs.Filling.{room_enough}
use Rattle.entering.proofs.Clearing.{clear_from}
use Rattle.changes.proofs.Heading.{Headed}
use Rattle.changes.proofs.Placing.{headed, fed_store_lem}
use Rattle.entering.proofs.Asking.{feedable}

-- what noting a feed in the header asks
abbrev pub Noteable : List ℕ → ℕ → ℕ → Type 0
Noteable s d k = (d < desks) × (header_size ≤ length s) × (size_at s d (sample_of k) < longest)

module _ (s : List ℕ) (d k a : ℕ) (p : Acceptable s d (sample_of k) a) (one : k ≤ 1) (r : List ℕ) (e : r ≡ recent_at s d (sample_of k))
    (counted : is_counted s d (sample_of k) ≡ true) where
  abbrev lent : List ℕ
  lent = take (length s - header_size) (drop header_size s)

  lent_feedable : Feedable d k a r (used s) lent
  lent_feedable = rw (e, tail_lent header_size s) (feedable s d k a one p counted)

  pub lent_ready : (m : ℕ) (places : List ℕ) → Located d r (records_in s) m places → Ready d k a r (used s) lent m places
  unfolding records_in
  lent_ready m places at = record {
    feedable = lent_feedable;
    located = rw (tail_lent header_size s) at;
    clear = rw (tail_lent header_size s) (clear_from s p.sound d p.at_open (sample_of k) r e m places at);
  }

  module _ (m : ℕ) (ys : List ℕ) (long : length ys ≡ length lent) (w : Written (fed d (sample_of k) a r (records (used s) lent)) m lent ys) where
    abbrev back : List ℕ
    back = take header_size s ++ (ys ++ drop (length s - header_size) (drop header_size s))

    back_is : back ≡ take header_size s ++ ys
    back_is = tail_back header_size ys s

    long' : length ys ≡ length (drop header_size s)
    long' = long ∙ ap length (tail_lent header_size s)

    w' : Written (records_fed s d (sample_of k) a) m (drop header_size s) ys
    unfolding records_in
    w' = rw counted (rw (e, tail_lent header_size s) at w)

    has_header : Headed s (take header_size s ++ ys)
    has_header = headed s ys (header_long s p.sound) long'

    pub count_fits : m ≤ most_room
    count_fits = omega (arith, written_count _ m (drop header_size s) ys w', room_enough s d (sample_of k) a p, (sound_stands s p.sound).room_most)

    size_there : size_at (take header_size s ++ ys) d (sample_of k) < longest
    size_there = rw (has_header.header (desk_start d + size_field (sample_of k)) (omega (arith, p.at_open.desk, size_number k one))) p.not_full

    pub note_asks : Noteable back d k
    note_asks = rw back_is (p.at_open.desk, omega (arith, has_header.enough, has_header.long), size_there)

    -- THEOREM. What comes of it is the store fed
    pub written : (t : List ℕ) → t ≡ noted m (desk_start d + size_field (sample_of k)) (desk_start d + recent_field (sample_of k)) a back → FedStore s t d (sample_of k) a
    written t q = subst (λ (u : List ℕ). FedStore s u d (sample_of k) a) (sym (q ∙ rw back_is)) (fed_store_lem s d (sample_of k) a p m ys long' w')

-- .. where the place is not counted
module _ (s : List ℕ) (d k a : ℕ) (p : Acceptable s d (sample_of k) a) (one : k ≤ 1) (uncounted : is_counted s d (sample_of k) ≡ false) where
  same : Written (records_fed s d (sample_of k) a) (used s) (drop header_size s) (drop header_size s)
  unfolding records_in fed_to
  same = rw uncounted (record { live = refl; past = refl })

  pub header_asks : Noteable s d k
  header_asks = (p.at_open.desk, header_long s p.sound, p.not_full)

  -- THEOREM. What comes of it is the store fed
  pub header_written : (t : List ℕ) → t ≡ noted (used s) (desk_start d + size_field (sample_of k)) (desk_start d + recent_field (sample_of k)) a s → FedStore s t d (sample_of k) a
  header_written t q =
      let parts = ap (noted (used s) (desk_start d + size_field (sample_of k)) (desk_start d + recent_field (sample_of k)) a) (sym (take-append-drop header_size s)) in
      subst (λ (u : List ℕ). FedStore s u d (sample_of k) a) (sym (q ∙ parts)) (fed_store_lem s d (sample_of k) a p (used s) (drop header_size s) refl same)
