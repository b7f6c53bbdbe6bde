-- How the numbers of a store after an accepted feed stand to those before. Assumes nothing.
use Rattle.std.specs.Prelude.{ℕ, suc, min, ◌+◌, ◌≤◌, ◌<◌, ◌≡◌, ◌≢◌, Bool, true, cond, List, ◌∷◌, length, take, drop, leb}
use Rattle.numbers.specs.Limits.{longest, desks}
use Rattle.numbers.specs.Sum.{one}
use Rattle.contexts.specs.Sitting.{Sample, sample_of, same_sample}
use Rattle.records.specs.Fed.{fed_to, missing_to}
use Rattle.store.specs.Layout.{store_size, room, field, symbols_at, depth_at, reserve_at, size_at, slots_at, records_in, opening_numbers, desk_numbers}
use Rattle.store.specs.Sound.{soundb, held_by}
use Rattle.store.specs.Plain.{Open}
use Rattle.store.specs.Meaning.{opening_at}
use Rattle.rules.specs.Feed.{counted_from}

-- the last up to D symbols of a sample, most recent first
abbrev pub recent_at : List ℕ → ℕ → Sample → List ℕ
recent_at s d i = take (min (size_at s d i) (depth_at s d)) (slots_at s d i)

-- whether the next symbol of a sample is counted: its place has at least D symbols before it
abbrev pub is_counted : List ℕ → ℕ → Sample → Bool
is_counted s d i = leb (counted_from (opening_at s d)) (size_at s d i)

-- how many of the contexts that a symbol follows count it: all where its place is counted, and none where it is not
abbrev pub counting_contexts : Bool → List ℕ → ℕ
counting_contexts counted recent = cond counted (suc (length recent)) 0

-- symbol a is fed to sample i of desk d, at a place that is counted or not
abbrev pub fed_if : Bool → ℕ → Sample → ℕ → List ℕ → List (List ℕ) → List (List ℕ)
fed_if counted d i a recent rs = fed_to (counting_contexts counted recent) d i a recent rs

-- how many of the contexts that count it no record has yet
abbrev pub missing_if : Bool → ℕ → List ℕ → List (List ℕ) → ℕ
missing_if counted d recent rs = missing_to (counting_contexts counted recent) d recent rs

-- the records after symbol a is fed to sample i of desk d: every context that counts it has one more count, and no other record has changed
abbrev pub records_fed : List ℕ → ℕ → Sample → ℕ → List (List ℕ)
records_fed s d i a = fed_if (is_counted s d i) d i a (recent_at s d i) (records_in s)

-- what refusals 1 to 9 leave to a feed of symbol a to sample number k of desk d
pub record Judged (s : List ℕ) (d k a : ℕ) : Type 0 where
  pub sound : soundb s ≡ true
  pub at_open : Open s d
  pub of_samples : k ≤ 1
  pub of_alphabet_holds : a < symbols_at s d
  pub not_full : size_at s d (sample_of k) < longest

-- symbol a can be fed to sample i of desk d: none of the refusals applies
pub record Acceptable (s : List ℕ) (d : ℕ) (i : Sample) (a : ℕ) : Type 0 where
  pub sound : soundb s ≡ true
  pub at_open : Open s d
  pub of_alphabet_holds : a < symbols_at s d
  pub not_full : size_at s d i < longest
  pub reserved : held_by d (records_in s) + missing_if (is_counted s d i) d (recent_at s d i) (records_in s) ≤ reserve_at s d

-- six recent symbols after symbol a: a first, the oldest gone
abbrev pub shifted : ℕ → List ℕ → List ℕ
shifted a slots = a ∷ take 5 slots

-- symbol a was fed to sample i of desk d: s are the numbers before, t those after
pub record FedStore (s t : List ℕ) (d : ℕ) (i : Sample) (a : ℕ) : Type 0 where
  pub room_same : room t ≡ room s
  -- the other desks' numbers, and those that the opening of this one named
  pub others_same : (e f : ℕ) → e < desks → e ≢ d → f < desk_numbers → field t e f ≡ field s e f
  pub limits_same : (f : ℕ) → f < opening_numbers → field t d f ≡ field s d f
  -- the sample is longer by one, and its recent symbols have moved on
  pub sizes : (j : Sample) → size_at t d j ≡ size_at s d j + one (same_sample j i)
  pub slots : (j : Sample) → slots_at t d j ≡ cond (same_sample j i) (shifted a (slots_at s d j)) (slots_at s d j)
  pub records_fed_holds : records_in t ≡ records_fed s d i a
  -- "only the first that many are ever written"
  pub past_same : drop (store_size (room s)) t ≡ drop (store_size (room s)) s
  pub length_same : length t ≡ length s
