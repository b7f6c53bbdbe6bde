-- Where the contexts that a fed symbol follows stand among the records. Assumes nothing.
use Rattle.std.specs.Prelude.{◌≡◌, true, false, cond, List, [], ◌∷◌, ◌++◌, ℕ, min, ◌+◌, ◌-◌, ◌*◌, ◌%◌, ◌≤◌, ◌<◌, length, take, drop, get_or, T, ltb}
use Rattle.numbers.specs.Limits.{most_symbols, deepest, desks}
use Rattle.contexts.specs.Context.{is_context}
use Rattle.contexts.specs.Keys.{key_of}
use Rattle.records.specs.Records.{width, records, keys}
use Rattle.records.specs.Held.{rank, held}
use Rattle.records.specs.Bumped.{Cell}
use Rattle.records.specs.Fed.{fresh, Feedable}

-- of the contexts take 0 recent, take 1 recent, .. of desk d the first m are held and the next is not; each of these stands, or would stand, at its place
pub record Located (d : ℕ) (recent : List ℕ) (rs : List (List ℕ)) (m : ℕ) (places : List ℕ) : Type 0 where
  pub within : m ≤ length recent + 1
  pub are_held : (j : ℕ) → j < m → held (key_of d (take j recent)) rs ≡ true
  pub next_missing : m ≤ length recent → held (key_of d (take m recent)) rs ≡ false
  pub stand_at : (j : ℕ) → j ≤ m → j ≤ length recent → get_or places j 0 ≡ rank (key_of d (take j recent)) (keys rs)

-- what seeking them answers: where they stand, and 0 at those of the seven places that no context up to the first missing one has
pub record Seeks (d : ℕ) (recent : List ℕ) (rs : List (List ℕ)) (m : ℕ) (places : List ℕ) : Type 0 where
  pub located : Located d recent rs m places
  pub seven : length places ≡ 7
  pub others : (j : ℕ) → min m (length recent) < j → get_or places j 0 ≡ 0

-- the key of the context that is longer by the recent symbol at a place, which stands at this power of eight; the key itself where no symbol is there
abbrev pub longer_key : ℕ → ℕ → List ℕ → ℕ → ℕ
longer_key k eights recent place = cond (ltb place (length recent)) (k + (get_or recent place 0 * eights + 1)) k

-- no record has a key from k to k'
abbrev pub Clear : ℕ → ℕ → List (List ℕ) → Type 0
Clear k k' rs = (x : ℕ) → k ≤ x → x ≤ k' → held x rs ≡ false

-- what writing a feed asks: its contexts are located, and no record stands among those that are missing
pub record Ready (d i a : ℕ) (recent : List ℕ) (n : ℕ) (l : List ℕ) (m : ℕ) (places : List ℕ) : Type 0 where
  pub feedable : Feedable d i a recent n l
  pub located : Located d recent (records n l) m places
  pub clear : m ≤ length recent → Clear (key_of d (take m recent)) (key_of d recent) (records n l)

-- what putting in the records of the contexts from length m on asks: that there are some, and room for them, in a multiple of 8 numbers
pub record Insertable (d : ℕ) (recent : List ℕ) (m c : ℕ) (l : List ℕ) : Type 0 where
  pub desk : d < desks
  pub context : T (is_context most_symbols deepest recent)
  pub some : m ≤ length recent
  pub cell : Cell c
  pub fits : width * (length recent + 1 - m) ≤ length l
  pub eighths : length l % 8 ≡ 0

-- .. and what it leaves: these records first, and then what was there, as far as there is room
pub record Inserted (d : ℕ) (recent : List ℕ) (m c : ℕ) (before after : List ℕ) : Type 0 where
  pub new : records (length recent + 1 - m) after ≡ fresh (length recent + 1 - m) m d recent c
  pub moved : drop (width * (length recent + 1 - m)) after ≡ take (length before - width * (length recent + 1 - m)) before

-- record r after the records of the contexts from length m to length j; nothing where j is below m
pub record Appended (m j : ℕ) (r : List ℕ) (before after : List ℕ) : Type 0 where
  pub there : m ≤ j → records (j + 1 - m) after ≡ records (j - m) before ++ (r ∷ [])
  pub stays : j < m → after ≡ before
