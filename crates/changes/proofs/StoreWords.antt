-- A store of numbers of 32 bits is one of such numbers when a desk was opened, fed or closed. Assumes nothing.
use mathlib.Core.Path.{◌≡◌}
use mathlib.Core.Bool.{true, not}
use mathlib.Core.List.{List, [], ◌++◌}
use Prim.Native.Nat.{ℕ, ◌+◌, ◌-◌, ◌*◌, ◌^◌, ◌<◌}
use native.Mathlib.Omega.{arith}
use lib.Dec.{lit<}
use lib.ListN.{length, take, drop, get_or, set}
use Rattle.numbers.specs.Limits.{most_symbols, deepest, longest}
use Rattle.numbers.proofs.Lists.{get_d_part}
use Rattle.contexts.specs.Sitting.{Sample}
use Rattle.contexts.proofs.Strings.{context_length}
use Rattle.records.specs.Records.{width, start_of}
use Rattle.records.specs.Held.{of_desk, without}
use Rattle.records.specs.Bumped.{cell_of}
use Rattle.recording.proofs.Desks.{length_without}
use Rattle.replay.specs.Room.{Opening}
use Rattle.store.specs.Layout.{header_size, desk_start, opening_numbers, desk_numbers, size_field, recent_field, used, records_in}
use Rattle.store.specs.Sound.{soundb}
use Rattle.store.specs.Meaning.{meaning}
use Rattle.store.proofs.Parts.{records_length}
use Rattle.store.proofs.Standing.{sound_stands}
use Rattle.store.proofs.Passing.{passed, header_long}
use Rattle.changes.specs.Changes.{fresh_desk}
use Rattle.changes.specs.FedStore.{Acceptable, recent_at, is_counted, counting_contexts, records_fed, shifted}
use Rattle.changes.specs.Words.{Words}
use Rattle.changes.proofs.Before.{wide, record_small}
use Rattle.changes.proofs.Whether.{counting_few, wide_if}
use Rattle.changes.proofs.Recent.{recent_within}
use Rattle.changes.proofs.Filling.{room_enough}
use Rattle.changes.proofs.Numbering.{fields_of}
use Rattle.changes.proofs.Placing.{headed}
use Rattle.changes.proofs.Granting.{Granted, limited, light}
use Rattle.changes.proofs.Vacant.{room_made_lem}
use Rattle.changes.proofs.Laying.{laid}
use Rattle.changes.proofs.Flat.{flat, in_front, front_long}
use Rattle.changes.proofs.Words.{words_append, words_take, words_drop, words_set, words_sets, words_zeros, AllWords, words_flat, words_parts, words_keep}
use Rattle.changes.proofs.FedWords.{cells_of, words_fed}
use Rattle.changes.proofs.Written.{body, fits, fed_store, shut_store}

module _ (s : List ℕ) (h : soundb s ≡ true) (w : Words s) where
  -- records in the place of those of the store
  front_words : (rs : List (List ℕ)) → AllWords rs → Words (in_front rs (body s))
  front_words rs u = words_append (flat rs) (drop (width * length rs) (body s)) (words_flat rs u) (words_drop (width * length rs) (body s) (words_drop header_size s w))

  records_words : AllWords (records_in s)
  unfolding records_in
  records_words = words_parts width (used s) (drop header_size s) (words_drop header_size s w)

  -- ---- an opening

  fresh_words : (o : Opening) → o.symbols < 2 ^ 32 → o.depth < 2 ^ 32 → o.weight < 2 ^ 32 → o.reserve < 2 ^ 32 → Words (fresh_desk o)
  fresh_words o p q w r = (lit< tt, (p, (q, (w, (r, words_zeros (desk_numbers - opening_numbers))))))

  pub opened_words : (d : ℕ) (o : Opening) → Granted (meaning s) d o → Words (laid s d (fresh_desk o))
  opened_words d o g =
      let l = limited o g.ready.limits in
      let small = fresh_words o (omega (arith, l.most)) (omega (arith, l.deep)) (omega (arith, light o g.ready.weight)) (omega (arith, g.in_room, room_made_lem s, (passed s h).framed.most)) in
      let rest = drop (desk_start d + desk_numbers - desk_start d) (drop (desk_start d) s) in
      words_append (take (desk_start d) s) (fresh_desk o ++ rest) (words_take (desk_start d) s w)
      (words_append (fresh_desk o) rest small (words_drop (desk_start d + desk_numbers - desk_start d) (drop (desk_start d) s) (words_drop (desk_start d) s w)))

  -- ---- a closing

  pub shut_words : (d : ℕ) → Words (shut_store s d)
  shut_words d =
      let rs = without d (records_in s) in
      let ys = in_front rs (body s) in
      let rest = drop (length s - header_size) (drop header_size s) in
      let back = words_append (take header_size s) (ys ++ rest) (words_take header_size s w)
      (words_append ys rest (front_words rs (words_keep (λ (k : ℕ). not (of_desk d k)) (records_in s) records_words)) (words_drop (length s - header_size) (drop header_size s) (words_drop header_size s w))) in
      let few : length rs < 2 ^ 32 = omega (arith, length_without d (records_in s), records_length s, (passed s h).framed.few, (passed s h).framed.most) in
      words_set (set (take header_size s ++ (ys ++ rest)) 1 (length rs)) (desk_start d + 0) 0 (lit< tt) (words_set (take header_size s ++ (ys ++ rest)) 1 (length rs) few back)

  -- ---- a feed

  module _ (d : ℕ) (i : Sample) (a : ℕ) (p : Acceptable s d i a) where
    small : a < most_symbols
    small = omega (arith, p.of_alphabet_holds, (sound_stands s h).alphabet_most d p.at_open)

    fed_records : AllWords (records_fed s d i a)
    fed_records =
        let recent = recent_at s d i in
        let within = recent_within s h d p.at_open i in
        let cells = cells_of (cell_of i a) longest (records_in s) (λ n l. let e = get_d_part most_symbols (start_of i) (get_or (records_in s) n []) a 0 small in omega (arith, record_small s h i a small n l)) in
        (words_fed d p.at_open.desk i a small recent within longest (records_in s) (counting_contexts (is_counted s d i) recent) (omega (arith, counting_few (is_counted s d i) recent, context_length most_symbols deepest recent within)) records_words cells).0

    -- the header as it was, and the records fed
    abbrev counted : List ℕ
    counted = take header_size s ++ in_front (records_fed s d i a) (body s)

    counted_words : Words counted
    counted_words = words_append (take header_size s) (in_front (records_fed s d i a) (body s)) (words_take header_size s w) (front_words (records_fed s d i a) fed_records)

    size_small : get_or counted (desk_start d + size_field i) 0 + 1 < 2 ^ 32
    size_small =
        let whole = wide_if d i a (recent_at s d i) (is_counted s d i) (records_in s) (wide s h) in
        let long = front_long (records_fed s d i a) (body s) whole (fits s h (records_fed s d i a) (room_enough s d i a p)) in
        let same = (headed s (in_front (records_fed s d i a) (body s)) (header_long s h) long).header (desk_start d + size_field i) (omega (arith, p.at_open.desk, (fields_of i).high)) in
        omega (arith, p.not_full)

    pub fed_words : Words (fed_store s d i a)
    fed_words =
        let z = desk_start d + size_field i in
        let y = desk_start d + recent_field i in
        let m = length (records_fed s d i a) in
        let few : m < 2 ^ 32 = omega (arith, room_enough s d i a p, (passed s h).framed.most) in
        let slots = take deepest (drop y counted) in
        let symbol : a < 2 ^ 32 = omega (arith, small) in
        words_sets (set (set counted 1 m) z (get_or counted z 0 + 1)) y (shifted a slots) (symbol, words_take 5 slots (words_take deepest (drop y counted) (words_drop y counted counted_words)))
        (words_set (set counted 1 m) z (get_or counted z 0 + 1) size_small (words_set counted 1 m few counted_words))
