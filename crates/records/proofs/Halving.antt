-- The place of a key among the records between two places, as the point where they part: before it are those with a smaller key. Assumes nothing.
use mathlib.Core.Path.{◌≡◌, refl, sym, ap, ◌∙◌}
use mathlib.Core.Bool.{Bool, true, false}
use mathlib.Core.List.{List, []}
use Prim.Native.Nat.{ℕ, zero, suc, ◌+◌, ◌-◌, ◌*◌, ◌≤◌, ◌<◌}
use native.Mathlib.Omega.{arith}
use borrow.Author.Tests.{ltb-true, ltb-false}
use lib.Dec.{ltb}
use lib.ListN.{length, take, drop, get_or, length-drop, length-take}
use lib.Seq.{get_or-take, length-take-le}
use Rattle.std.proofs.lemmas.List.{get_or_default}
use Rattle.std.specs.Simd.{first_chunks}
use Rattle.std.specs.List.Sorted.{IsPartitionedBy, IsPartitionPoint}
use Rattle.numbers.proofs.Orders.{less, same, more, order}
use Rattle.numbers.proofs.Lists.{get_d_part}
use Rattle.records.specs.Records.{width, records, key, keys}
use Rattle.records.specs.Held.{rank, Bounded, Placed}
use Rattle.records.proofs.Parts.{length_parts, parts_chunked}
use Rattle.records.proofs.Rising.{key_at, above_middle, up_to_middle}

-- whether a record's key is smaller
abbrev pub smaller : ℕ → List ℕ → Bool
smaller k r = ltb (key r) k

module _ (k n low high : ℕ) (l : List ℕ) (b : Bounded k n low high l) (all : ℕ) (enough : n ≤ all) where
  abbrev part : List (List ℕ)
  part = take (high - low) (drop low (first_chunks width all l))

  -- the key of the record at a place of the part
  read : (j : ℕ) (d : List ℕ) → low + j < high → key (get_or part j d) ≡ get_or l (width * (low + j)) 0
  read j d h =
      let whole = first_chunks width all l in
      let inside : low + j < n = omega (arith, b.inside) in
      let within : low + j < length (records n l) = rw (length_parts width n l) inside in
      ap key (
      get_d_part (high - low) low whole j d (omega arith)
      ∙ sym (get_or-take n whole (low + j) d inside)
      ∙ ap (λ (rs : List (List ℕ)). get_or rs (low + j) d) (parts_chunked width n all l enough)
      ∙ get_or_default (records n l) (low + j) d [] within)
      ∙ key_at n (low + j) l inside

  smaller_before : (j : ℕ) (d : List ℕ) → low + j < high → smaller k (get_or part j d) ≡ true → low + j < rank k (keys (records n l))
  smaller_before j d h t =
      above_middle n (low + j) k l (omega (arith, b.inside)) b.standing.rising (rw (← read j d h) (ltb-true (key (get_or part j d)) k t))

  others_after : (j : ℕ) (d : List ℕ) → low + j < high → smaller k (get_or part j d) ≡ false → rank k (keys (records n l)) ≤ low + j
  others_after j d h t =
      up_to_middle n (low + j) k l (omega (arith, b.inside)) (rw (← read j d h) (ltb-false (key (get_or part j d)) k t))

  in_order : low ≤ high
  in_order = omega (arith, b.from_low, b.to_high)

  part_long : length part ≡ high - low
  part_long =
      let whole = first_chunks width all l in
      let many : n ≤ length whole = omega (arith, ap length (parts_chunked width n all l enough), length_parts width n l, length-take n whole) in
      length-take-le (high - low) (drop low whole) (rw (length-drop low whole) (omega (arith, b.inside)))

  pub parted : IsPartitionedBy (smaller k) part
  parted i j d ij jl t = go (smaller k (get_or part i d)) refl
    where
      go : (u : Bool) → smaller k (get_or part i d) ≡ u → smaller k (get_or part i d) ≡ true
      go true e = e
      go false e =
          let jh : low + j < high = omega (arith, part_long, in_order) in
          let ih : low + i < high = omega (arith, jh) in
          absurd (omega (arith, smaller_before j d jh t, others_after i d ih e))

  no_sooner : (i : ℕ) → i ≤ length part → IsPartitionPoint (λ r. smaller k r ≡ true) (λ r. smaller k r ≡ false) part i → low + i ≤ rank k (keys (records n l))
  no_sooner zero h p = omega (arith, b.from_low)
  no_sooner (suc j) h p =
      let jh : low + j < high = omega (arith, part_long, in_order) in
      omega (arith, smaller_before j [] jh (p.0 j [] (omega arith) (omega arith)))

  pub placed : (i : ℕ) → i ≤ length part → IsPartitionPoint (λ r. smaller k r ≡ true) (λ r. smaller k r ≡ false) part i → Placed k n (low + i) l
  placed i h p = record {
    at = let least = no_sooner i h p in elim (order i (high - low)) [
      | less o ↦ let most = others_after i [] (omega (arith, in_order)) (p.1 i [] (omega arith) (omega (arith, part_long))) in omega arith
      | same o ↦ omega (arith, b.to_high, in_order)
      | more o ↦ absurd (omega (arith, part_long))
    ];
    within = omega (arith, part_long, in_order, b.inside);
  }

  -- the same of the records as the code has them
  pub placed_in : (ys : List (List ℕ)) → ys ≡ first_chunks width all l → (i : ℕ) → i ≤ length (take (high - low) (drop low ys))
      → (IsPartitionedBy (smaller k) (take (high - low) (drop low ys)) → IsPartitionPoint (λ r. smaller k r ≡ true) (λ r. smaller k r ≡ false) (take (high - low) (drop low ys)) i)
      → Placed k n (low + i) l
  placed_in ys e i = rw e (λ h p. placed i h (p parted))
