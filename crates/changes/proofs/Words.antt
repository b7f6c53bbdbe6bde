-- Numbers of 32 bits stay so where lists are cut, joined and written to, and where records are cut, joined and taken out. Assumes nothing.
use mathlib.Core.Bool.{Bool, true, false, cond}
use mathlib.Core.List.{List, [], ◌∷◌, ◌++◌}
use Prim.Native.Nat.{ℕ, zero, suc, ◌^◌, ◌<◌}
use lib.Dec.{lit<}
use lib.ListN.{take, drop, set, replicate}
use lib.Seq.{sets}
use Rattle.records.specs.Records.{key, parts}
use Rattle.records.specs.Held.{keep}
use Rattle.changes.specs.Words.{Words}
use Rattle.changes.proofs.Flat.{flat}

-- ---- lists

pub words_append : (a b : List ℕ) → Words a → Words b → Words (a ++ b)
words_append [] b u v = v
words_append (x ∷ a) b u v = (u.0, words_append a b u.1 v)

pub words_take : (n : ℕ) (l : List ℕ) → Words l → Words (take n l)
words_take zero l w = tt
words_take (suc n) [] w = tt
words_take (suc n) (x ∷ l) w = (w.0, words_take n l w.1)

pub words_drop : (n : ℕ) (l : List ℕ) → Words l → Words (drop n l)
words_drop zero l w = w
words_drop (suc n) [] w = tt
words_drop (suc n) (x ∷ l) w = words_drop n l w.1

pub words_set : (l : List ℕ) (i v : ℕ) → v < 2 ^ 32 → Words l → Words (set l i v)
words_set [] i v h w = tt
words_set (x ∷ l) zero v h w = (h, w.1)
words_set (x ∷ l) (suc i) v h w = (w.0, words_set l i v h w.1)

pub words_sets : (l : List ℕ) (i : ℕ) (vs : List ℕ) → Words vs → Words l → Words (sets l i vs)
words_sets l i [] u w = w
words_sets l i (v ∷ vs) u w = words_sets (set l i v) (suc i) vs u.1 (words_set l i v u.0 w)

pub words_zeros : (n : ℕ) → Words (replicate n 0)
words_zeros zero = tt
words_zeros (suc n) = (lit< tt, words_zeros n)

-- ---- records

abbrev pub AllWords : List (List ℕ) → Type 0
AllWords [] = Unit {0}
AllWords (r ∷ rs) = Words r × AllWords rs

pub words_flat : (rs : List (List ℕ)) → AllWords rs → Words (flat rs)
unfolding flat
words_flat [] w = tt
words_flat (r ∷ rs) w = words_append r (flat rs) w.0 (words_flat rs w.1)

pub words_parts : (k n : ℕ) (l : List ℕ) → Words l → AllWords (parts k n l)
unfolding parts
words_parts k zero l w = tt
words_parts k (suc n) l w = (words_take k l w, words_parts k n (drop k l) (words_drop k l w))

pub words_keep : (p : ℕ → Bool) (rs : List (List ℕ)) → AllWords rs → AllWords (keep p rs)
unfolding keep
words_keep p [] w = tt
words_keep p (r ∷ rs) w = go (p (key r)) (words_keep p rs w.1)
  where
    go : (b : Bool) → AllWords (keep p rs) → AllWords (cond b (r ∷ keep p rs) (keep p rs))
    go true v = (w.0, v)
    go false v = v
