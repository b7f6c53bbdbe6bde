-- Good values are those within document 01's limits, and the file of such values is a header and then the symbols, a byte each. Assumes nothing.
use Prim.Native.Nat.{ℕ, zero, suc}
use native.Mathlib.Omega.{arith}
use mathlib.Core.Path.{◌≡◌, refl, ap, ◌∙◌}
use mathlib.Core.List.{List, [], ◌∷◌, ◌++◌}
use lib.Dec.{T, leb, ltb, leb→le, le→leb, ltb→lt, lt→ltb}
use lib.ListN.{length, length-append}
use Rattle.numbers.specs.Limits.{fewest_symbols, most_symbols, deepest, longest}
use Rattle.numbers.proofs.Tests.{both, left, right}
use Rattle.sitting_file.specs.Samples.{InLimits, Below, last_symbols}
use Rattle.sitting_file.specs.Verdict.{written, with_header, OfFormat}
use Rattle.sitting_file.specs.declared.Shape.{Shape}
use Rattle.sitting_file.proofs.Rewritten.{one_each, format_symbols}
use Rattle.sitting_file.proofs.Written.{written_append}
use Rattle.writing.specs.Writing.{shape_of, file_of, all_below, good_values}

below_append : (A : ℕ) (xs ys : List ℕ) → Below A xs → Below A ys → Below A (xs ++ ys)
below_append A [] ys p q i l = q i l
below_append A (x ∷ xs) ys p q zero l = p 0 (omega arith)
below_append A (x ∷ xs) ys p q (suc i) l = below_append A xs ys (λ j h. p (suc j) (omega arith)) q i (omega arith)

all_below_lem : (A : ℕ) (xs : List ℕ) → T (all_below A xs) → Below A xs
all_below_lem A [] t i l = absurd (omega arith)
all_below_lem A (x ∷ xs) t zero l = ltb→lt x A (left (ltb x A) _ t)
all_below_lem A (x ∷ xs) t (suc i) l = all_below_lem A xs (right (ltb x A) _ t) i (omega arith)

below_all : (A : ℕ) (xs : List ℕ) → Below A xs → T (all_below A xs)
below_all A [] b = tt
below_all A (x ∷ xs) b = both (ltb x A) _ (lt→ltb x A (b 0 (omega arith))) (below_all A xs (λ i l. b (suc i) (omega arith)))

-- symbols below A are put behind a header as they are, a byte each
pub symbols_follow : (q : Shape) (xs ys : List ℕ) → InLimits q → Below q.alphabet xs → Below q.alphabet ys → written (with_header q (xs ++ ys)) ≡ written (with_header q []) ++ (xs ++ ys)
symbols_follow q xs ys l b d =
    written_append (with_header q []) (xs ++ ys) ∙ ap (λ (ss : List ℕ). written (with_header q []) ++ ss) (one_each q.alphabet (xs ++ ys) l.alphabet_high (below_append q.alphabet xs ys b d))

-- A, D, n and m within their limits, and every symbol below A
pub record Good (A D : ℕ) (xs ys : List ℕ) : Type 0 where
  pub limits : InLimits (shape_of A D xs ys)
  pub first_below : Below A xs
  pub second_below : Below A ys

module _ (A D : ℕ) (xs ys : List ℕ) where
  pub good : T (good_values A D xs ys) → Good A D xs ys
  unfolding good_values
  good g =
      let p₁ = right (leb fewest_symbols A) _ g in
      let p₂ = right (leb A most_symbols) _ p₁ in
      let p₃ = right (leb D deepest) _ p₂ in
      let p₄ = right (leb (length xs) longest) _ p₃ in
      let p₅ = right (leb (length ys) longest) _ p₄ in
      record {
        limits = record {
          alphabet_low = leb→le fewest_symbols A (left (leb fewest_symbols A) _ g);
          alphabet_high = leb→le A most_symbols (left (leb A most_symbols) _ p₁);
          depth_high = leb→le D deepest (left (leb D deepest) _ p₂);
          first_high = leb→le (length xs) longest (left (leb (length xs) longest) _ p₃);
          second_high = leb→le (length ys) longest (left (leb (length ys) longest) _ p₄);
        };
        first_below = all_below_lem A xs (left (all_below A xs) _ p₅);
        second_below = all_below_lem A ys (right (all_below A xs) _ p₅);
      }

  pub good_values_lem : Good A D xs ys → T (good_values A D xs ys)
  unfolding good_values
  good_values_lem h =
      let l = h.limits in
      both (leb fewest_symbols A) _ (le→leb fewest_symbols A l.alphabet_low)
      (both (leb A most_symbols) _ (le→leb A most_symbols l.alphabet_high)
      (both (leb D deepest) _ (le→leb D deepest l.depth_high)
      (both (leb (length xs) longest) _ (le→leb (length xs) longest l.first_high)
      (both (leb (length ys) longest) _ (le→leb (length ys) longest l.second_high)
      (both (all_below A xs) (all_below A ys) (below_all A xs h.first_below) (below_all A ys h.second_below))))))

  -- the file: the header's four numbers, then the samples as they are
  pub file_parts : Good A D xs ys → file_of A D xs ys ≡ written (with_header (shape_of A D xs ys) []) ++ (xs ++ ys)
  file_parts h = symbols_follow (shape_of A D xs ys) xs ys h.limits h.first_below h.second_below

  -- such a file is of document 01's format
  pub of_format : Good A D xs ys → OfFormat (file_of A D xs ys) (shape_of A D xs ys)
  of_format h = record {
    symbols = xs ++ ys;
    limits = h.limits;
    count = length-append xs ys;
    below = below_append A xs ys h.first_below h.second_below;
    bytes = refl;
  }

  -- its symbols are the samples
  pub file_symbols : Good A D xs ys → xs ++ ys ≡ last_symbols (file_of A D xs ys) (shape_of A D xs ys)
  unfolding of_format
  file_symbols h = format_symbols (file_of A D xs ys) (shape_of A D xs ys) (of_format h)
