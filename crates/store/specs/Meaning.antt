-- What the numbers of a store stand for: the room, and the sitting at each open desk. It names no place in the store and no number that is
-- not in use. Assumes nothing.
use Rattle.std.specs.Prelude.{◌≡◌, cond, ◌&&◌, List, [], ◌∷◌, ◌++◌, ℕ, ◌≤◌, ◌<◌, min, take, length, T, ltb}
use Rattle.numbers.specs.Limits.{fewest_symbols, most_symbols, deepest, most_weight, longest, desks, most_room}
use Rattle.numbers.specs.Sum.{sum}
use Rattle.contexts.specs.Context.{is_context}
use Rattle.contexts.specs.Keys.{key_of}
use Rattle.contexts.specs.Sitting.{Sample, Sitting, Progress, total_in, contexts_held, sat}
use Rattle.records.specs.Held.{count_at}
use Rattle.replay.specs.Room.{Opening, Desk, closed, opened, Room, reserved}
use Rattle.store.specs.Layout.{room, is_open, symbols_at, depth_at, weight_at, reserve_at, size_at, slots_at, records_in}

-- ---- the meaning

abbrev pub opening_at : List ℕ → ℕ → Opening
opening_at s d = record { symbols = symbols_at s d; depth = depth_at s d; weight = weight_at s d; reserve = reserve_at s d }

-- the lengths, the last up to D symbols, and the counts in the records of the desk's contexts
abbrev pub progress_at : List ℕ → ℕ → Progress
progress_at s d = record {
  size = size_at s d;
  recent = λ i. take (min (size_at s d i) (depth_at s d)) (slots_at s d i);
  count = λ i c a. cond (is_context (symbols_at s d) (depth_at s d) c) (count_at (key_of d c) i a (records_in s)) 0;
}

-- the sitting at a desk
abbrev pub sitting_at : List ℕ → ℕ → Sitting
sitting_at s d = sat (symbols_at s d) (depth_at s d) (weight_at s d) (progress_at s d)

abbrev pub desk_at : List ℕ → ℕ → Desk Progress
desk_at s d = cond (ltb d desks && is_open s d) (opened (opening_at s d) (progress_at s d)) closed

unfoldable pub meaning : List ℕ → Room Progress
meaning s = record { made = room s; at = desk_at s }

-- ---- what document 01 says of every meaning

-- the sitting of an opening, with what it has so far
pub record SittingFits (o : Opening) (p : Progress) : Type 0 where
  -- "alphabet size A from 2 to 8", "depth D from 0 to 6", a weight "from 0 to 16", a reservation
  pub alphabet_fewest : fewest_symbols ≤ o.symbols
  pub alphabet_most : o.symbols ≤ most_symbols
  pub depth_most : o.depth ≤ deepest
  pub weight_most : o.weight ≤ most_weight
  pub reserve_some : 1 ≤ o.reserve
  -- "0 to 2,048 symbols"
  pub sizes : (i : Sample) → p.size i ≤ longest
  -- the last symbols: D of them, or as many as there are, each below A
  pub recent_length : (i : Sample) → length (p.recent i) ≡ min (p.size i) o.depth
  pub recent_below : (i : Sample) → T (is_context o.symbols o.depth (p.recent i))
  -- counts are those of contexts, at symbols below A
  pub only_contexts : (i : Sample) (s : List ℕ) (a : ℕ) → (T (is_context o.symbols o.depth s) → ⊥) → p.count i s a ≡ 0
  pub only_below : (i : Sample) (s : List ℕ) (a : ℕ) → o.symbols ≤ a → p.count i s a ≡ 0
  -- "no context's total N(s) in a sample passes that sample's length"
  pub totals : (i : Sample) (s : List ℕ) → total_in (sat o.symbols o.depth o.weight p) i s ≤ p.size i
  -- "no context is seen in a sample that has not seen its shorter suffixes"
  pub suffixes : (i : Sample) (s : List ℕ) (a : ℕ) → 0 < total_in (sat o.symbols o.depth o.weight p) i (s ++ a ∷ []) → 0 < total_in (sat o.symbols o.depth o.weight p) i s
  -- "no sitting holds more contexts than it reserved"
  pub held_reserved : contexts_held (sat o.symbols o.depth o.weight p) ≤ o.reserve

pub record Fits (ρ : Room Progress) : Type 0 where
  -- "store room K from 1 to 4,096 contexts"
  pub room_some : 1 ≤ ρ.made
  pub room_most : ρ.made ≤ most_room
  -- "desks 0 to 7"
  pub eight_desks : (d : ℕ) → desks ≤ d → ρ.at d ≡ closed
  pub sittings : (d : ℕ) (o : Opening) (p : Progress) → ρ.at d ≡ opened o p → SittingFits o p
  -- "reservations add up to at most K"
  pub reservations : sum desks (λ d. reserved (ρ.at d)) ≤ ρ.made
