-- What is kept of a sample's bytes: a beginning of them, below A, and the longest that is. Assumes nothing.
use Prim.Native.Nat.{ℕ, zero, suc, ◌+◌, ◌≤◌, ◌<◌}
use native.Mathlib.Omega.{arith}
use mathlib.Core.Path.{◌≡◌, refl, sym, ap, ◌∙◌}
use mathlib.Core.Bool.{Bool, true, false, cond}
use mathlib.Core.List.{List, [], ◌∷◌, ◌++◌, append-nil}
use borrow.Author.Tests.{ltb-true, ltb-false, lt-ltb, le-leb, lt-leb}
use Rattle.std.specs.Prelude.{Option, Some, None}
use Rattle.std.specs.Option.{unwrap_or}
use Rattle.std.specs.List.{position_or_len}
use lib.Dec.{ltb, leb}
use lib.ListN.{length, take, length-append}
use lib.Seq.{take_all}
use Rattle.sitting_file.specs.Samples.{Below}
use Rattle.salvage.specs.Salvage.{kept_bytes}
use Rattle.salvage.specs.Saving.{Beginning}

-- what is kept are the bytes before the first that is not below A
pub kept_before : (A : ℕ) (bytes : List ℕ) → kept_bytes A bytes ≡ take (position_or_len (leb A) bytes) bytes
unfolding kept_bytes
kept_before A [] = refl
kept_before A (b ∷ bs) = go (ltb b A) refl (kept_before A bs)
  where
    one_more : 1 + position_or_len (leb A) bs ≡ suc (position_or_len (leb A) bs)
    one_more = omega arith

    go : (t : Bool) → ltb b A ≡ t → kept_bytes A bs ≡ take (position_or_len (leb A) bs) bs → kept_bytes A (b ∷ bs) ≡ take (position_or_len (leb A) (b ∷ bs)) (b ∷ bs)
    go true e h = rw (e, lt-leb A b (ltb-true b A e)) (ap (λ (l : List ℕ). b ∷ l) h ∙ sym (ap (λ (k : ℕ). take k (b ∷ bs)) one_more))
    go false e h = rw (e, le-leb A b (ltb-false b A e))

-- as a search finds that place
pub kept_found : (A : ℕ) (bytes : List ℕ) (place : Option ℕ) → place ≡ cond (ltb (position_or_len (leb A) bytes) (length bytes)) (Some (position_or_len (leb A) bytes)) None
    → take (unwrap_or place (length bytes)) bytes ≡ kept_bytes A bytes
kept_found A bytes place e = rw e (go (ltb first (length bytes)) refl) ∙ sym (kept_before A bytes)
  where
    first : ℕ
    first = position_or_len (leb A) bytes

    go : (t : Bool) → ltb first (length bytes) ≡ t → take (unwrap_or (cond t (Some first) None) (length bytes)) bytes ≡ take first bytes
    go true f = refl
    go false f = take_all (length bytes) bytes (omega arith) ∙ sym (take_all first bytes (ltb-false first (length bytes) f))

-- ---- a beginning

-- no beginning of the bytes that is below A is longer
kept_longest : (A : ℕ) (bytes other more : List ℕ) → bytes ≡ other ++ more → Below A other → length other ≤ length (kept_bytes A bytes)
unfolding kept_bytes
kept_longest A bytes [] more e b = omega arith
kept_longest A [] (o ∷ os) more e b = let z : ◌≡◌ {A = ℕ} 0 1 = cc in absurd (omega arith)
kept_longest A (x ∷ xs) (o ∷ os) more e b =
    let same : x ≡ o = cc in
    let small : o < A = b 0 (omega arith) in
    let behind : xs ≡ os ++ more = cc in
    let rest : Below A os = λ i l. b (suc i) (omega arith) in
    let onward : length os ≤ length (kept_bytes A xs) = kept_longest A xs os more behind rest in
    rw (lt-ltb x A (omega (arith, same, small))) (omega (arith, onward))

-- what is kept begins the bytes, and is below A
record Begins (A : ℕ) (bytes kept : List ℕ) : Type 0 where
  rest : List ℕ
  split : bytes ≡ kept ++ rest
  below : Below A kept

begins : (A : ℕ) (bytes : List ℕ) → Begins A bytes (kept_bytes A bytes)
unfolding kept_bytes
begins A [] = record { rest = []; split = refl; below = λ i l. absurd (omega arith) }
begins A (b ∷ bs) = go (ltb b A) refl (begins A bs)
  where
    on : b < A → Begins A bs (kept_bytes A bs) → Begins A (b ∷ bs) (b ∷ kept_bytes A bs)
    on l h = record { rest = h.rest; split = ap {B = List ℕ} (λ (t : List ℕ). b ∷ t) h.split; below = each }
      where
        each : Below A (b ∷ kept_bytes A bs)
        each zero k = l
        each (suc i) k = h.below i (omega arith)

    go : (t : Bool) → ltb b A ≡ t → Begins A bs (kept_bytes A bs) → Begins A (b ∷ bs) (cond t (b ∷ kept_bytes A bs) [])
    go true e h = on (ltb-true b A e) h
    go false e h = record { rest = b ∷ bs; split = refl; below = λ i l. absurd (omega arith) }

pub kept_begins : (A : ℕ) (bytes : List ℕ) → Beginning A bytes (kept_bytes A bytes)
kept_begins A bytes = let h = begins A bytes in record { rest = h.rest; split = h.split; below = h.below; none_longer = kept_longest A bytes }

-- bytes that are all below A are all kept
pub all_kept : (A : ℕ) (bytes : List ℕ) → Below A bytes → kept_bytes A bytes ≡ bytes
unfolding kept_bytes
all_kept A [] b = refl
all_kept A (x ∷ xs) b = rw (lt-ltb x A (b 0 (omega arith)), all_kept A xs (λ i l. b (suc i) (omega arith)))

-- and kept bytes that are as many are the bytes
pub whole_kept : (A : ℕ) (bytes : List ℕ) → length bytes ≤ length (kept_bytes A bytes) → kept_bytes A bytes ≡ bytes
whole_kept A bytes h = let b = begins A bytes in go b.rest b.split (omega (arith, h, ap length b.split, length-append (kept_bytes A bytes) b.rest))
  where
    go : (rest : List ℕ) → bytes ≡ kept_bytes A bytes ++ rest → length rest ≤ 0 → kept_bytes A bytes ≡ bytes
    go [] e l = sym (e ∙ append-nil (kept_bytes A bytes))
    go (x ∷ rest) e l = absurd (omega arith)

pub kept_fits : (A : ℕ) (bytes : List ℕ) → length (kept_bytes A bytes) ≤ length bytes
kept_fits A bytes =
    let h = kept_begins A bytes in
    omega (arith, ap length h.split, length-append (kept_bytes A bytes) h.rest)
