-- What a sound store's records meet of what their functions ask, and how a desk's records are counted. Assumes nothing.
use mathlib.Core.Path.{◌≡◌, sym, ap, ap₂, ◌∙◌}
use mathlib.Core.Bool.{true, false}
use mathlib.Core.List.{List, [], ◌++◌}
use Prim.Native.Nat.{ℕ, ◌+◌, ◌-◌, ◌*◌, ◌≤◌, ◌<◌}
use native.Mathlib.Nat.{mul-le-mul_left}
use native.Mathlib.Omega.{arith}
use borrow.Author.Tests.{le-ltb}
use lib.Dec.{ltb}
use lib.ListN.{length, take, drop, get_or, length-append, length-drop}
use lib.Seq.{length-take-le}
use Rattle.numbers.specs.Limits.{most_symbols, deepest, longest, most_room}
use Rattle.contexts.specs.Keys.{desk_span, key_of}
use Rattle.contexts.specs.Sitting.{Sample, sample_of}
use Rattle.contexts.proofs.Strings.{context_length}
use Rattle.contexts.proofs.KeyOrder.{digits_nil, context_key_lt}
use Rattle.contexts.proofs.Followed.{context_take}
use Rattle.records.specs.Records.{width, records, keys, counts_of, lookup}
use Rattle.records.specs.Held.{rank, keep, of_desk, without, Standing}
use Rattle.records.specs.Fed.{missing, Askable, Feedable}
use Rattle.records.specs.Located.{Seeks}
use Rattle.records.proofs.Parts.{length_parts}
use Rattle.records.proofs.Rising.{rank_mono, rank_same, length_keys, rank_length}
use Rattle.records.proofs.Finding.{lookup_each}
use Rattle.records.proofs.Counting.{count_blank}
use Rattle.records.proofs.Lent.{tail_lent}
use Rattle.recording.proofs.Desks.{length_without, without_cut}
use Rattle.store.specs.Layout.{header_size, room, used, field, reserve_at, records_in}
use Rattle.store.specs.Sound.{soundb, held_by}
use Rattle.store.specs.Plain.{Open}
use Rattle.store.proofs.Parts.{records_length}
use Rattle.store.proofs.Standing.{sound_stands}
use Rattle.changes.specs.FedStore.{Acceptable, recent_at, is_counted}
use Rattle.entering.specs.Seeking.{Found, Spanned}
use Rattle.changes.proofs.Recent.{recent_within}
use Rattle.changes.proofs.Before.{standing, record_small}
use Rattle.changes.proofs.Filling.{room_missing}

pub askable : (s : List ℕ) → soundb s ≡ true → (d : ℕ) → Open s d → (i : Sample) → Askable d (recent_at s d i) (used s) (drop header_size s)
askable s h d o i = record { standing = standing s h; desk = o.desk; context = recent_within s h d o i }

-- no count is above a sample's longest
count_small : (s : List ℕ) → soundb s ≡ true → (i : Sample) (a k : ℕ) → a < most_symbols → get_or (counts_of i (lookup k (records_in s))) a 0 ≤ longest
count_small s h i a k l =
    lookup_each (λ r. get_or (counts_of i r) a 0 ≤ longest) k (records_in s) (omega (arith, count_blank i a k)) (record_small s h i a l)

pub feedable : (s : List ℕ) (d k a : ℕ) → k ≤ 1 → Acceptable s d (sample_of k) a → is_counted s d (sample_of k) ≡ true → Feedable d k a (recent_at s d (sample_of k)) (used s) (drop header_size s)
unfolding records_in
feedable s d k a one p c =
    let g = sound_stands s p.sound in
    let small : a < most_symbols = omega (arith, p.of_alphabet_holds, g.alphabet_most d p.at_open) in
    let fits : width * (used s + missing d (recent_at s d (sample_of k)) (records_in s)) ≤ width * room s = mul-le-mul_left width (rw c at (room_missing s d (sample_of k) a p)) in
    record {
      asked = askable s p.sound d p.at_open (sample_of k);
      sample = omega arith;
      symbol = small;
      room = rw (length-drop header_size s) (omega (arith, g.long));
      small = λ n. count_small s p.sound (sample_of k) a n small;
    }

-- a desk's records lie between the places of its first key and of the next desk's
pub desk_many : (d n : ℕ) (l : List ℕ) (low high : ℕ) → Standing n l → low ≡ rank (d * desk_span) (keys (records n l)) → high ≡ rank ((d + 1) * desk_span) (keys (records n l))
    → (low ≤ high) × (high - low ≡ length (keep (of_desk d) (records n l)))
desk_many d n l low high st e f =
    let rs = records n l in
    let up : low ≤ high = omega (arith, rank_mono (d * desk_span) ((d + 1) * desk_span) (keys rs) (omega arith)) in
    let top : high ≤ n = omega (arith, rank_length ((d + 1) * desk_span) (keys rs), length_keys n l) in
    let count : length rs ≡ n = length_parts width n l in
    let cut : length (without d rs) ≡ length (take low rs ++ drop high rs) = rw (e, f) (ap length (without_cut d 0 rs st.rising)) in
    let halves : length (take low rs ++ drop high rs) ≡ low + (n - high) =
    length-append (take low rs) (drop high rs) ∙ rw (length-take-le low rs (omega arith), length-drop high rs, count) in
    (up, omega (arith, length_without d rs))

-- the records part as it is lent to be read
abbrev lent : List ℕ → List ℕ
lent s = take (length s - header_size) (drop header_size s)

module _ (s : List ℕ) (d : ℕ) (r : List ℕ) where
  pub lent_askable : Askable d r (used s) (drop header_size s) → Askable d r (used s) (lent s)
  lent_askable q = rw (tail_lent header_size s) q

  pub sought_in : (m : ℕ) (places : List ℕ) → Seeks d r (records (used s) (lent s)) m places → Seeks d r (records_in s) m places
  unfolding records_in
  sought_in m places at = rw (tail_lent header_size s) at at

-- what the missing contexts are judged by
module _ (s : List ℕ) (d : ℕ) (r : List ℕ) (m : ℕ) (places : List ℕ) (f : Found s d r m places) where
  held_most : held_by d (records_in s) ≤ reserve_at s d
  held_most = (sound_stands s f.sound).reserved_held d f.at_open

  -- where none is missing the sitting stays within its reservation
  pub none_past : length r < m → false ≡ ltb (reserve_at s d) (held_by d (records_in s) + (length r + 1 - m))
  none_past h = sym (le-ltb (reserve_at s d) (held_by d (records_in s) + (length r + 1 - m)) (omega (arith, held_most)))

  -- .. and where one is, the desk's records are counted
  module _ (on : m ≤ length r) where
    pub few_places : m < 7
    few_places = omega (arith, context_length most_symbols deepest r f.context)

    pub spanned : Spanned d (used s) (get_or places 0 0) (get_or places m 0) (lent s)
    unfolding records_in
    spanned =
        let least : key_of d [] ≡ d * desk_span = omega (arith, digits_nil deepest) in
        let below = context_key_lt (take m r) (context_take most_symbols deepest m r f.context) in
        let ks = keys (records_in s) in
        rw (tail_lent header_size s) (record {
          standing = standing s f.sound;
          desk = f.at_open.desk;
          begin = rank_same (key_of d []) (d * desk_span) ks (get_or places 0 0) (f.located.stand_at 0 (omega arith) (omega arith)) least;
          no_later = rw (f.located.stand_at m (omega arith) on) (rank_mono (key_of d (take m r)) ((d + 1) * desk_span) ks (omega arith));
        })

    module _ (x y : ℕ) (e : x ≡ length (keep (of_desk d) (records (used s) (lent s)))) (g : y ≡ field s d 4) where
      counted : x ≡ held_by d (records_in s)
      unfolding records_in
      counted = e ∙ rw (tail_lent header_size s)

      pub sum_small : x + (length r + 1 - m) ≤ most_room + 7
      sum_small =
          omega (
            arith,
            counted,
            length_without d (records_in s),
            records_length s,
            context_length most_symbols deepest r f.context,
            (sound_stands s f.sound).few,
            (sound_stands s f.sound).room_most,
          )

      pub past_is : ltb y (x + (length r + 1 - m)) ≡ ltb (reserve_at s d) (held_by d (records_in s) + (length r + 1 - m))
      past_is = ap₂ (λ (u v : ℕ). ltb u (v + (length r + 1 - m))) g counted
