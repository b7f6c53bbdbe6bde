-- The two strings of a sitting: what its accepted feeds have fed. Assumes nothing.
use Rattle.std.specs.Prelude.{ℕ, ◌≡◌, cond, length, take, T}
use mathlib.Core.List.{List, [], ◌∷◌, foldl}
use Rattle.contexts.specs.Context.{is_context}
use Rattle.contexts.specs.Counts.{N}
use Rattle.contexts.specs.Sitting.{Sample, same_sample, Sitting, sitting_of, Progress, sample_of}
use Rattle.replay.specs.Room.{Opening}
use Rattle.replay.specs.Serial.{Course}
use Rattle.replay.specs.Alone.{asks, OpenAlone}
use Rattle.rules.specs.Feed.{counted_from}
use Rattle.rules.specs.Rules.{Ask, feed, reporting, charting, rules}

-- symbol a joins sample i's string, most recent first
abbrev pub push : Sample → ℕ → (Sample → List ℕ) → Sample → List ℕ
push i a w j = cond (same_sample j i) (a ∷ w j) (w j)

-- the strings after one more ask: a feed alone makes them longer
abbrev pub longer : (Sample → List ℕ) → Ask → Sample → List ℕ
longer w (feed i a) = push (sample_of i) a w
longer w (reporting sheet place) = w
longer w (charting len code a) = w

-- the strings of a sitting, from its accepted asks in their order
unfoldable pub strings_of : List Ask → Sample → List ℕ
strings_of qs = foldl longer (λ i. []) qs

-- the sitting of two strings, as a desk opened with o holds it
abbrev pub sitting_for : Opening → (Sample → List ℕ) → Sitting
sitting_for o w = sitting_of o.symbols o.depth o.weight (counted_from o) w

-- what a sitting has so far is what two strings over its alphabet make it
pub record StandsFor (o : Opening) (w : Sample → List ℕ) (p : Progress) : Type 0 where
  pub over : (i : Sample) → T (is_context o.symbols (length (w i)) (w i))
  pub sizes : (i : Sample) → p.size i ≡ length (w i)
  pub recent : (i : Sample) → p.recent i ≡ take o.depth (w i)
  -- "N(s,a)" for every context of the sitting
  pub counts : (i : Sample) (s : List ℕ) (a : ℕ) → T (is_context o.symbols o.depth s) → p.count i s a ≡ N (counted_from o) (w i) s a

-- desk d, opened with o, has p so far: what the strings make it that its own sitting's accepted feeds have fed
pub record OfOwnStrings (gs : List (Course rules)) (d : ℕ) (o : Opening) (p : Progress) : Type 0 where
  pub own : OpenAlone rules gs d o p
  pub stands : StandsFor o (strings_of (asks rules own.sitting.told)) p
