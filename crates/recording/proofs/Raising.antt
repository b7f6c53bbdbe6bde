-- The contexts that are held get one more, one after the other: the keys stay as they were, so each place does. Assumes nothing.
use mathlib.Core.Path.{◌≡◌, refl, sym, ap, ◌∙◌}
use mathlib.Core.Bool.{and-false}
use mathlib.Core.List.{List}
use Prim.Native.Nat.{ℕ, zero, suc, ◌+◌, ◌*◌, ◌≤◌, ◌<◌}
use native.Mathlib.Numerals.{add-one}
use native.Mathlib.Omega.{arith}
use borrow.Author.Tests.{le-ltb}
use lib.ListN.{length, take, get_or, length-take, length-set}
use Rattle.numbers.specs.Limits.{most_symbols, deepest, longest}
use Rattle.contexts.specs.Keys.{key_of}
use Rattle.contexts.specs.Sitting.{sample_of}
use Rattle.contexts.proofs.KeyOrder.{Within}
use Rattle.contexts.proofs.Strings.{context_length}
use Rattle.contexts.proofs.Followed.{context_take}
use Rattle.records.specs.Records.{width, records, keys, lookup}
use Rattle.records.specs.Held.{rank, Rising}
use Rattle.records.specs.Bumped.{cell_of, raised, Cell, Written}
use Rattle.records.specs.Fed.{fed_to}
use Rattle.records.specs.Located.{Ready}
use Rattle.records.proofs.Seeking.{found_at}
use Rattle.records.proofs.Counting.{count_cell, cell_past, cell_within}
use Rattle.recording.specs.Counted.{raised_each, Raisable}
use Rattle.recording.proofs.Inserting.{hit_cell, bump_hit}
use Rattle.recording.proofs.Feeding.{rising_fed_to, lookup_fed_to}
use Rattle.recording.proofs.Around.{held_keys}
use Rattle.recording.proofs.Running.{keys_fed_to}

-- as many numbers as before
pub length_raised : (j c : ℕ) (places l : List ℕ) → length (raised_each j c places l) ≡ length l
unfolding raised_each
length_raised zero c places l = refl
length_raised (suc j) c places l =
    length-set (raised_each j c places l) (width * get_or places j 0 + c) _ ∙ length_raised j c places l

-- the loop begins, and takes a turn
pub raised_none : (c : ℕ) (places l : List ℕ) → l ≡ raised_each 0 c places l
unfolding raised_each
raised_none c places l = refl

pub raised_on : (j c : ℕ) (places l l₁ l₂ : List ℕ) → l₁ ≡ raised_each j c places l → l₂ ≡ raised (width * get_or places j 0 + c) l₁ → l₂ ≡ raised_each (j + 1) c places l
unfolding raised_each
raised_on j c places l l₁ l₂ e f = rw (add-one j, ← e) f

-- where the count of a symbol stands, as the code works it out
abbrev pub cell_at : ℕ → ℕ → ℕ
cell_at i a = 1 + (8 * i + a)

pub cell_is : (i a : ℕ) → i < 2 → cell_at i a ≡ cell_of (sample_of i) a
cell_is zero a h = omega arith
cell_is (suc zero) a h = omega arith
cell_is (suc (suc i)) a h = absurd (omega arith)

module _ {d i a : ℕ} {r : List ℕ} {n : ℕ} {l₀ : List ℕ} {m : ℕ} {places : List ℕ} (q : Ready d i a r n l₀ m places) where
  up : Rising (records n l₀)
  up = q.feedable.asked.standing.rising

  cr : Within r
  cr = q.feedable.asked.context

  abbrev cell : ℕ
  cell = cell_at i a

  pub cell_there : Cell (cell_at i a)
  cell_there =
      rw (cell_is i a q.feedable.sample)
      (record { after_key = cell_past (sample_of i) a; inside = cell_within (sample_of i) a q.feedable.symbol })

  -- where the contexts shorter than j have got one more, the keys are as they were, so each place is
  module _ {l : List ℕ} (j : ℕ) (w : Written (fed_to j d (sample_of i) a r (records n l₀)) n l₀ l) where
    abbrev k : ℕ
    k = key_of d (take j r)

    same_keys : j ≤ m → keys (records n l) ≡ keys (records n l₀)
    same_keys h = ap keys w.live ∙ keys_fed_to d (sample_of i) a r cr (records n l₀) up m q.located.are_held j h

    pub place_now : j ≤ m → j ≤ length r → get_or places j 0 ≡ rank (key_of d (take j r)) (keys (records n l))
    place_now h on = q.located.stand_at j h on ∙ ap (rank k) (sym (same_keys h))

    rising_now : Rising (records n l)
    rising_now = rw w.live (rising_fed_to d (sample_of i) a r j (records n l₀) up)

    -- .. and the next context gets it at its place, if it is held
    module _ (next : j < m) where
      abbrev p : ℕ
      p = get_or places j 0

      place_next : p ≡ rank k (keys (records n l))
      place_next = place_now (omega arith) (omega (arith, q.located.within))

      there : (p < n) × (get_or l (width * p) 0 ≡ k)
      there = found_at k n p l rising_now place_next (held_keys k (records n l) (records n l₀) (same_keys (omega arith)) ∙ q.located.are_held j next)

      lookup_now : lookup k (records n l) ≡ lookup k (records n l₀)
      lookup_now =
          let short : length (take j r) ≡ j = omega (arith, length-take j r, q.located.within) in
          ap (lookup k) w.live
          ∙ lookup_fed_to d r cr d (take j r) (context_take most_symbols deepest j r cr) (sample_of i) a j (omega (arith, q.located.within)) (records n l₀) up
          ∙ simp (le-ltb (length (take j r)) j (omega arith), and-false)

      small_now : get_or l (width * p + cell) 0 ≤ longest
      small_now =
          rw (← hit_cell k cell n p l cell_there there.0 there.1 rising_now, cell_is i a q.feedable.sample, lookup_now)
          (rw (← count_cell (sample_of i) a (lookup k (records n l₀)) q.feedable.symbol) (q.feedable.small k))

      next_raised : Written (fed_to (suc j) d (sample_of i) a r (records n l₀)) n l₀ (raised (width * p + cell) l)
      unfolding fed_to
      next_raised =
          let b = bump_hit k cell n p l cell_there there.0 there.1 place_next (raised (width * p + cell) l) refl in
          record { live = b.live ∙ rw (cell_is i a q.feedable.sample, w.live); past = b.past ∙ w.past }

  -- THEOREM. So all that are held get one more ..
  pub each_raised : (j : ℕ) → j ≤ m → Written (fed_to j d (sample_of i) a r (records n l₀)) n l₀ (raised_each j (cell_at i a) places l₀)
  unfolding fed_to raised_each
  each_raised zero h = record { live = refl; past = refl }
  each_raised (suc j) h = next_raised j (each_raised j (omega arith)) h

  -- .. and each of their counts can be raised
  pub raisable : Raisable m (cell_at i a) places l₀
  raisable = record {
    few = omega (arith, q.located.within, context_length most_symbols deepest r cr);
    there = λ j h. omega (arith, (there j (each_raised j (omega arith)) h).0, q.feedable.asked.standing.fits, cell_there.inside);
    small = λ j h. small_now j (each_raised j (omega arith)) h;
  }
