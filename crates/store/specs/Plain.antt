-- What the soundness test promises, in document 01's words: each of its conditions by name, and what the test asks beyond them.
-- Assumes nothing.
use Rattle.std.specs.Prelude.{◌≡◌, List, [], ℕ, ◌+◌, ◌≤◌, ◌<◌, length, get_or, T}
use Rattle.numbers.specs.Limits.{fewest_symbols, most_symbols, deepest, most_weight, longest, desks, most_room}
use Rattle.numbers.specs.Sum.{sum}
use Rattle.contexts.specs.Context.{is_context, begins}
use Rattle.contexts.specs.Keys.{key_of}
use Rattle.contexts.specs.Sitting.{Sample, first, second}
use Rattle.records.specs.Records.{key, lookup, count_of}
use Rattle.store.specs.Layout.{store_size, room, used, is_open, symbols_at, depth_at, weight_at, reserve_at, size_at, slots_at, records_in, total_of}
use Rattle.store.specs.Sound.{held_by, reserved_at}

-- desk d is one of the eight and open
pub record Open (s : List ℕ) (d : ℕ) : Type 0 where
  pub desk : d < desks
  pub opened : T (is_open s d)

-- a context of desk d
abbrev pub ContextAt : List ℕ → ℕ → List ℕ → Type 0
ContextAt s d c = T (is_context (symbols_at s d) (depth_at s d) c)

-- the record in which desk d counts the context c, and N(c) in a sample
abbrev pub record_for : List ℕ → ℕ → List ℕ → List ℕ
record_for s d c = lookup (key_of d c) (records_in s)

abbrev pub total_at : List ℕ → ℕ → Sample → List ℕ → ℕ
total_at s d i c = total_of i (record_for s d c)

-- a record counts a context of an open desk, and has counted it at least once
pub record Counts (s r : List ℕ) : Type 0 where
  pub desk : ℕ
  pub context : List ℕ
  pub at_open : Open s desk
  pub is_context_holds : ContextAt s desk context
  pub under_key : key r ≡ key_of desk context
  pub seen : 0 < total_of first r + total_of second r

-- record j of those in use
abbrev pub nth_record : List ℕ → ℕ → List ℕ
nth_record s j = get_or (records_in s) j []

pub record Sound (s : List ℕ) : Type 0 where
  -- "store room K from 1 to 4,096 contexts"
  pub room_some : 1 ≤ room s
  pub room_most : room s ≤ most_room
  -- "at least 2,048 + 24·K numbers"
  pub long : store_size (room s) ≤ length s
  -- "A, D, lengths and symbols are then within their limits"
  pub alphabet_fewest : (d : ℕ) → Open s d → fewest_symbols ≤ symbols_at s d
  pub alphabet_most : (d : ℕ) → Open s d → symbols_at s d ≤ most_symbols
  pub depth : (d : ℕ) → Open s d → depth_at s d ≤ deepest
  pub lengths : (d : ℕ) → Open s d → (i : Sample) → size_at s d i ≤ longest
  pub symbols : (d : ℕ) → Open s d → (i : Sample) (j : ℕ) → j < deepest → get_or (slots_at s d i) j 0 < symbols_at s d
  -- document 02, E5: "each open sitting's weight is within its limits"
  pub weight : (d : ℕ) → Open s d → weight_at s d ≤ most_weight
  -- "reservations add up to at most K"
  pub reservations : sum desks (reserved_at s) ≤ room s
  -- "no sitting holds more contexts than it reserved"
  pub reserved_held : (d : ℕ) → Open s d → held_by d (records_in s) ≤ reserve_at s d
  -- "no context is held twice"
  pub held_once : (j k : ℕ) → j < used s → k < used s → key (nth_record s j) ≡ key (nth_record s k) → j ≡ k
  -- "no count above 0 stands at a symbol from A up"
  pub counts_below : (d : ℕ) → Open s d → (c : List ℕ) → ContextAt s d c → (i : Sample) (a : ℕ) → symbols_at s d ≤ a → count_of i (record_for s d c) a ≡ 0
  -- "no context's total N(s) in a sample passes that sample's length"
  pub totals : (d : ℕ) → Open s d → (c : List ℕ) → ContextAt s d c → (i : Sample) → total_at s d i c ≤ size_at s d i
  -- "no context is seen in a sample that has not seen its shorter suffixes"
  pub suffixes : (d : ℕ) → Open s d → (c t : List ℕ) → ContextAt s d c → T (begins t c) → (i : Sample) → 0 < total_at s d i c → 0 < total_at s d i t
  -- beyond document 01: some room is reserved by each open sitting
  pub reserve_some : (d : ℕ) → Open s d → 1 ≤ reserve_at s d
  -- beyond: there are no more records than room
  pub few : used s ≤ room s
  -- beyond: every record in use counts a context of an open desk, at least once
  pub each_counts : (j : ℕ) → j < used s → Counts s (nth_record s j)
  -- beyond: the records stand in the order of their keys
  pub in_order : (j k : ℕ) → j < k → k < used s → key (nth_record s j) < key (nth_record s k)
