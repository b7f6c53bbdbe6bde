-- The recent symbols of a sample, as they are copied. Assumes nothing.
use mathlib.Core.Path.{◌≡◌, ap₂}
use mathlib.Core.Bool.{true}
use mathlib.Core.List.{List}
use Prim.Native.Nat.{ℕ, min, ◌≤◌}
use native.Mathlib.Omega.{arith}
use borrow.Author.Tests.{leb-true}
use lib.ListN.{length, take}
use Rattle.contexts.specs.Sitting.{sample_of}
use Rattle.store.specs.Layout.{depth_at, size_at, slots_at}
use Rattle.store.specs.Sound.{soundb}
use Rattle.store.specs.Plain.{Open}
use Rattle.store.proofs.Standing.{sound_stands, slots_long}
use Rattle.store.proofs.Passing.{header_long}
use Rattle.changes.specs.FedStore.{recent_at, is_counted}

module _ (s : List ℕ) (d k : ℕ) (h : soundb s ≡ true) (o : Open s d) (one : k ≤ 1) where
  -- how many there are, and the six places themselves
  abbrev pub Copied : ℕ → List ℕ → Type 0
  Copied many slots = (many ≡ depth_at s d) × (slots ≡ slots_at s d (sample_of k))

  -- the first so many of them are the symbols that the next one follows, where it is counted
  pub copied_recent : is_counted s d (sample_of k) ≡ true → (many : ℕ) (slots : List ℕ) → Copied many slots → (many ≤ length slots) × (take many slots ≡ recent_at s d (sample_of k))
  copied_recent counted many slots (n, six) =
      let enough : depth_at s d ≤ size_at s d (sample_of k) = leb-true (depth_at s d) (size_at s d (sample_of k)) counted in
      let m : many ≡ min (size_at s d (sample_of k)) (depth_at s d) = omega (arith, n, enough) in
      (rw (six, slots_long s d (sample_of k) o.desk (header_long s h)) (omega (arith, n, (sound_stands s h).depth d o)), ap₂ take m six)
