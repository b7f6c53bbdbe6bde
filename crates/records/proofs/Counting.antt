-- A record's counts after one more of a symbol in a sample, and the counts under each key. Assumes nothing.
use mathlib.Core.Path.{◌≡◌, refl, sym, ap, ◌∙◌}
use mathlib.Core.Bool.{Bool, true, false, cond, ◌&&◌}
use mathlib.Core.List.{List, [], ◌∷◌}
use Prim.Native.Nat.{ℕ, ◌+◌, ◌≤◌, ◌<◌}
use native.Mathlib.Omega.{arith}
use borrow.Author.Tests.{eq-eqb, ne_eqb}
use lib.Dec.{eqb}
use lib.ListN.{length, take, drop, get_or, set, length-drop}
use lib.Seq.{drop-set-add, drop-set-lt, take-set-lt, take-set-le, get_or-set_same, get_or-set_other, length-take-le}
use Rattle.numbers.specs.Limits.{most_symbols}
use Rattle.numbers.specs.Sum.{one, sum}
use Rattle.numbers.proofs.Tests.{choose}
use Rattle.numbers.proofs.Orders.{less, same, more, order}
use Rattle.numbers.proofs.Lists.{get_d_part, zeros_at}
use Rattle.contexts.specs.Sitting.{Sample, first, second, same_sample, sum_of}
use Rattle.records.specs.Records.{width, key, start_of, counts_of, count_of, blank, lookup}
use Rattle.records.specs.Held.{held, count_at, Rising, Wide}
use Rattle.records.specs.Bumped.{cell_of, raised, bumped}
use Rattle.records.proofs.Finding.{lookup_absent}
use Rattle.records.proofs.Bumping.{lookup_bumped}

-- ---- a record

-- one more inside a part of a record, before it, and past it
part_in : (s m x : ℕ) (r : List ℕ) → x < m → take m (drop s (raised (s + x) r)) ≡ raised x (take m (drop s r))
part_in s m x r h =
    ap (take m) (drop-set-add s r x (get_or r (s + x) 0 + 1))
    ∙ take-set-lt m (drop s r) x (get_or r (s + x) 0 + 1) h
    ∙ ap (λ (v : ℕ). set (take m (drop s r)) x (v + 1)) (sym (get_d_part m s r x 0 h))

part_before : (s m c : ℕ) (r : List ℕ) → c < s → take m (drop s (raised c r)) ≡ take m (drop s r)
part_before s m c r h = ap (take m) (drop-set-lt s r c (get_or r c 0 + 1) h)

part_past : (s m x : ℕ) (r : List ℕ) → m ≤ x → take m (drop s (raised (s + x) r)) ≡ take m (drop s r)
part_past s m x r h = ap (take m) (drop-set-add s r x (get_or r (s + x) 0 + 1)) ∙ take-set-le m (drop s r) x (get_or r (s + x) 0 + 1) h

-- the counts of the raised sample, and of the other
pub counts_raised : (i j : Sample) (a : ℕ) (r : List ℕ) → a < most_symbols
    → counts_of j (raised (cell_of i a) r) ≡ cond (same_sample i j) (raised a (counts_of j r)) (counts_of j r)
counts_raised first first a r h = part_in 1 most_symbols a r h
counts_raised first second a r h = part_before 9 most_symbols (1 + a) r (omega arith)
counts_raised second first a r h =
    let at : 9 + a ≡ 1 + (8 + a) = omega arith in
    rw at (part_past 1 most_symbols (8 + a) r (omega arith))
counts_raised second second a r h = part_in 9 most_symbols a r h

raised_at : (a b : ℕ) (x : List ℕ) → a < length x → get_or (raised a x) b 0 ≡ get_or x b 0 + one (eqb a b)
raised_at a b x h =
    elim (order a b) [
      | less l ↦ rw (get_or-set_other x a b (get_or x a 0 + 1) 0 (λ e. omega arith), ne_eqb a b (λ e. omega arith)) (omega arith)
      | same e ↦ rw (← e, get_or-set_same x a (get_or x a 0 + 1) 0 h, eq-eqb a a refl)
      | more l ↦ rw (get_or-set_other x a b (get_or x a 0 + 1) 0 (λ e. omega arith), ne_eqb a b (λ e. omega arith)) (omega arith)
    ]

pub length_counts : (i : Sample) (r : List ℕ) → length r ≡ width → length (counts_of i r) ≡ most_symbols
length_counts first r e = length-take-le most_symbols (drop 1 r) (rw (length-drop 1 r, e) (omega arith))
length_counts second r e = length-take-le most_symbols (drop 9 r) (rw (length-drop 9 r, e) (omega arith))

-- THEOREM. A raised record has one more of that symbol in that sample, and every other count as before
pub count_raised : (i j : Sample) (a b : ℕ) (r : List ℕ) → a < most_symbols → length r ≡ width
    → count_of j (raised (cell_of i a) r) b ≡ count_of j r b + one (same_sample i j && eqb a b)
count_raised i j a b r h e = rw (counts_raised i j a r h) (go (same_sample i j))
  where
    go : (t : Bool) → get_or (cond t (raised a (counts_of j r)) (counts_of j r)) b 0 ≡ get_or (counts_of j r) b 0 + one (t && eqb a b)
    go true = raised_at a b (counts_of j r) (let n = length_counts j r e in omega arith)
    go false = omega arith

-- a count by its cell
pub count_cell : (i : Sample) (a : ℕ) (r : List ℕ) → a < most_symbols → count_of i r a ≡ get_or r (cell_of i a) 0
count_cell i a r h = get_d_part most_symbols (start_of i) r a 0 h

pub cell_past : (i : Sample) (a : ℕ) → 1 ≤ cell_of i a
cell_past first a = omega arith
cell_past second a = omega arith

pub cell_within : (i : Sample) (a : ℕ) → a < most_symbols → cell_of i a < width
cell_within first a h = omega arith
cell_within second a h = omega arith

-- ---- under a key

-- a blank record has no count, so a key that no record has stands for none
pub count_blank : (i : Sample) (b k : ℕ) → count_of i (blank k) b ≡ 0
count_blank first b k = zeros_at 8 b
count_blank second b k = zeros_at 8 b

pub total_blank : (i : Sample) (k : ℕ) → sum_of (counts_of i (blank k)) ≡ 0
unfolding sum
total_blank first k = refl
total_blank second k = refl

pub count_absent : (k : ℕ) (i : Sample) (b : ℕ) (rs : List (List ℕ)) → held k rs ≡ false → count_at k i b rs ≡ 0
count_absent k i b rs h = rw (lookup_absent k rs h) (count_blank i b k)

pub wide_lookup : (k : ℕ) (rs : List (List ℕ)) → Wide rs → length (lookup k rs) ≡ width
unfolding lookup
wide_lookup k [] w = refl
wide_lookup k (r ∷ rs) w = choose (λ (x : List ℕ). length x ≡ width) (eqb (key r) k) r (lookup k rs) w.0 (wide_lookup k rs w.1)

-- THEOREM. One more count under k is one more at its sample and symbol, and nowhere else
pub count_bumped : (k k' : ℕ) (i j : Sample) (a b : ℕ) (rs : List (List ℕ)) → a < most_symbols → Wide rs → Rising rs
    → count_at k' j b (bumped k i a rs) ≡ count_at k' j b rs + one (eqb k k' && (same_sample i j && eqb a b))
count_bumped k k' i j a b rs h w up = rw (lookup_bumped (cell_of i a) (cell_past i a) k k' rs up) (go (eqb k k'))
  where
    go : (t : Bool) → count_of j (cond t (raised (cell_of i a) (lookup k' rs)) (lookup k' rs)) b ≡ count_of j (lookup k' rs) b + one (t && (same_sample i j && eqb a b))
    go true = count_raised i j a b (lookup k' rs) h (wide_lookup k' rs w)
    go false = omega arith
