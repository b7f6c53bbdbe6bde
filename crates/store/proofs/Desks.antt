-- A desk's test: what it tells of an open desk, and what makes it pass. Assumes nothing.
use mathlib.Core.Path.{◌≡◌, sym, ◌∙◌}
use mathlib.Core.Bool.{Bool, true, ◌&&◌}
use mathlib.Core.List.{List}
use Prim.Native.Nat.{ℕ, ◌+◌, ◌-◌, ◌≤◌}
use native.Mathlib.Omega.{arith}
use lib.Dec.{T, leb, leb→le, le→leb}
use lib.ListN.{take, drop}
use Rattle.numbers.specs.Limits.{fewest_symbols, most_symbols, deepest, most_weight, longest}
use Rattle.numbers.specs.Every.{all}
use Rattle.numbers.proofs.Tests.{both, left, right, is_true, is_false}
use Rattle.contexts.specs.Sitting.{Sample}
use Rattle.store.specs.Layout.{is_open, symbols_at, depth_at, weight_at, reserve_at, size_at, slots_at}
use Rattle.store.specs.Sound.{of_alphabet, each_sample, limits_ok, desk_test}
use Rattle.store.proofs.Many.{sample_at, sample_of_lem}

-- what the test says of an open desk with so many records
pub record DeskStands (s : List ℕ) (d many : ℕ) : Type 0 where
  pub fewest : fewest_symbols ≤ symbols_at s d
  pub most : symbols_at s d ≤ most_symbols
  pub depth : depth_at s d ≤ deepest
  pub weight : weight_at s d ≤ most_weight
  pub some : 1 ≤ reserve_at s d
  pub sizes : (i : Sample) → size_at s d i ≤ longest
  pub within : many ≤ reserve_at s d
  pub slots : (i : Sample) → T (all (of_alphabet (symbols_at s d)) (slots_at s d i))

-- an open desk
pub desk_open : (s : List ℕ) (d many : ℕ) → T (is_open s d)
    → desk_test s d many ≡ limits_ok s d && (leb many (reserve_at s d) && each_sample (λ i. all (of_alphabet (symbols_at s d)) (slots_at s d i)))
unfolding desk_test
desk_open s d many t = rw (is_true (is_open s d) t)

-- a desk that is not open passes
pub desk_shut : (s : List ℕ) (d many : ℕ) → (T (is_open s d) → ⊥) → desk_test s d many ≡ true
unfolding desk_test
desk_shut s d many n = rw (is_false (is_open s d) n)

module _ (s : List ℕ) (d many : ℕ) (here : T (is_open s d)) where
  pub desk_stands : T (desk_test s d many) → DeskStands s d many
  unfolding limits_ok
  desk_stands t =
      let slots = each_sample (λ i. all (of_alphabet (symbols_at s d)) (slots_at s d i)) in
      let u = rw (desk_open s d many here) at t in
      let limits = left (limits_ok s d) _ u in
      let rest = right (limits_ok s d) _ u in
      let one = right (leb fewest_symbols (symbols_at s d)) _ limits in
      let two = right (leb (symbols_at s d) most_symbols) _ one in
      let three = right (leb (depth_at s d) deepest) _ two in
      let four = right (leb (weight_at s d) most_weight) _ three in
      record {
        fewest = leb→le fewest_symbols (symbols_at s d) (left (leb fewest_symbols (symbols_at s d)) _ limits);
        most = leb→le (symbols_at s d) most_symbols (left (leb (symbols_at s d) most_symbols) _ one);
        depth = leb→le (depth_at s d) deepest (left (leb (depth_at s d) deepest) _ two);
        weight = leb→le (weight_at s d) most_weight (left (leb (weight_at s d) most_weight) _ three);
        some = leb→le 1 (reserve_at s d) (left (leb 1 (reserve_at s d)) _ four);
        sizes = λ i. leb→le (size_at s d i) longest (sample_at (λ j. leb (size_at s d j) longest) (right (leb 1 (reserve_at s d)) _ four) i);
        within = leb→le many (reserve_at s d) (left (leb many (reserve_at s d)) slots rest);
        slots = sample_at (λ i. all (of_alphabet (symbols_at s d)) (slots_at s d i)) (right (leb many (reserve_at s d)) slots rest);
      }

  pub stands_desk : DeskStands s d many → T (desk_test s d many)
  unfolding limits_ok
  stands_desk h =
      rw (desk_open s d many here)
      (both (limits_ok s d) _
      (both (leb fewest_symbols (symbols_at s d)) _ (le→leb fewest_symbols (symbols_at s d) h.fewest)
      (both (leb (symbols_at s d) most_symbols) _ (le→leb (symbols_at s d) most_symbols h.most)
      (both (leb (depth_at s d) deepest) _ (le→leb (depth_at s d) deepest h.depth)
      (both (leb (weight_at s d) most_weight) _ (le→leb (weight_at s d) most_weight h.weight)
      (both (leb 1 (reserve_at s d)) _ (le→leb 1 (reserve_at s d) h.some)
      (sample_of_lem (λ i. leb (size_at s d i) longest) (λ i. le→leb (size_at s d i) longest (h.sizes i))))))))
      (both (leb many (reserve_at s d)) _ (le→leb many (reserve_at s d) h.within) (sample_of_lem (λ i. all (of_alphabet (symbols_at s d)) (slots_at s d i)) h.slots)))

-- six places of the store, as the code lends them
pub slots_lent : (s : List ℕ) (d a at : ℕ) (t : Bool) → a ≡ symbols_at s d → t ≡ all (of_alphabet a) (take (at + deepest - at) (drop at s))
    → all (of_alphabet (symbols_at s d)) (take deepest (drop at s)) ≡ t
slots_lent s d a at t e q =
    let six : at + deepest - at ≡ deepest = omega arith in
    sym (q ∙ rw (e, six))
