-- The sums of a context's counts, symbol by symbol: what they stay below, and the losses that they give. Assumes nothing.
use Prim.Native.Nat.{ℕ, ◌+◌, ◌-◌, ◌*◌, ◌≤◌, ◌<◌}
use native.Mathlib.Nat.{le_trans}
use native.Mathlib.Omega.{arith}
use mathlib.Core.Path.{◌≡◌, refl, sym, ap, ◌∙◌}
use mathlib.Core.List.{List}
use Rattle.numbers.specs.Limits.{most_symbols, most_counted, top_log}
use Rattle.numbers.specs.Sum.{sum}
use Rattle.numbers.proofs.Sums.{sum_next, sum_longer}
use Rattle.logarithm.specs.Logarithm.{L}
use Rattle.logarithm.proofs.Laws.{term_top}
use Rattle.logarithm.proofs.Terms.{terms_le}
use Rattle.contexts.specs.Sitting.{first, second, row_in, sum_of}
use Rattle.estimate.specs.Trees.{Kind, shared, own}
use Rattle.estimate.specs.Score.{terms, fit_times}
use Rattle.estimate.specs.Recursion.{spread}
use Rattle.estimate.specs.Table.{counts_in, LossesOf}
use Rattle.estimate.specs.Adding.{SumsOf, Addable, SumsAnd, SumOf}
use Rattle.estimate.specs.declared.ByKind.{ByKind}
use Rattle.estimate.specs.declared.Sums.{Sums}
use Rattle.estimate.proofs.Tables.{sum_shared}

-- no symbol yet
pub sums_none : (t : List (List ℕ)) → SumsOf 0 t (record { first = 0; second = 0; terms = record { shared = 0; first = 0; second = 0 } })
unfolding sum
sums_none t = record { first_sum = refl; second_sum = refl; shared_terms = refl; first_terms = refl; second_terms = refl }

-- one symbol more
pub sums_next : (t : List (List ℕ)) (a : ℕ) (s r : Sums) → SumsOf a t s → SumsAnd s (counts_in t (own first) a) (counts_in t (own second) a) r → SumsOf (a + 1) t r
sums_next t a s r p q = record {
  first_sum = q.first_sum ∙ more (counts_in t (own first)) p.first_sum;
  second_sum = q.second_sum ∙ more (counts_in t (own second)) p.second_sum;
  shared_terms = q.shared_terms ∙ more (term shared) p.shared_terms;
  first_terms = q.first_terms ∙ more (term (own first)) p.first_terms;
  second_terms = q.second_terms ∙ more (term (own second)) p.second_terms;
}
  where
    term : Kind → ℕ → ℕ
    term k b = counts_in t k b * L (counts_in t k b)

    more : {x : ℕ} (f : ℕ → ℕ) → x ≡ sum a f → x + f a ≡ sum (a + 1) f
    more f e = omega (arith, e, sum_next a f)

module _ (t : List (List ℕ)) (small : sum_of (row_in t first) + sum_of (row_in t second) ≤ most_counted) where
  total_small : (k : Kind) → sum most_symbols (counts_in t k) ≤ most_counted
  total_small shared = omega (arith, sum_shared t)
  total_small (own first) = omega (arith, small)
  total_small (own second) = omega (arith, small)

  terms_small : (k : Kind) (a : ℕ) → a ≤ most_symbols → terms a (counts_in t k) ≤ most_counted * top_log
  terms_small k a l =
      le_trans (sum_longer a most_symbols (λ b. counts_in t k b * L (counts_in t k b)) l)
      (le_trans (terms_le most_symbols (counts_in t k)) (term_top (sum most_symbols (counts_in t k)) (total_small k)))

  pub addable : (a : ℕ) (s : Sums) → a < most_symbols → SumsOf a t s → Addable s (counts_in t (own first) a) (counts_in t (own second) a)
  addable a s l p = record {
    counted = omega (arith, p.first_sum, p.second_sum, up_to (own first), up_to (own second));
    shared_small = omega (arith, p.shared_terms, terms_small shared a (omega arith));
    first_small = omega (arith, p.first_terms, terms_small (own first) a (omega arith));
    second_small = omega (arith, p.second_terms, terms_small (own second) a (omega arith));
  }
    where
      up_to : (k : Kind) → sum a (counts_in t k) + counts_in t k a ≤ sum most_symbols (counts_in t k)
      up_to k = omega (arith, sum_next a (counts_in t k), sum_longer (a + 1) most_symbols (counts_in t k) (omega arith))

  -- ---- with all symbols added

  module _ (s : Sums) (all : SumsOf most_symbols t s) where
    both : s.first + s.second ≡ sum most_symbols (counts_in t shared)
    both = omega (arith, sum_shared t, all.first_sum, all.second_sum)

    able : (k : Kind) (n w : ℕ) → n ≡ sum most_symbols (counts_in t k) → w ≡ terms most_symbols (counts_in t k) → (n ≤ most_counted) × (w ≤ n * L n)
    able k n w total part = rw (total, part) (total_small k, terms_le most_symbols (counts_in t k))

    pub shared_able : (s.first + s.second ≤ most_counted) × (s.terms.shared ≤ (s.first + s.second) * L (s.first + s.second))
    shared_able = able shared (s.first + s.second) s.terms.shared both all.shared_terms

    pub first_able : (s.first ≤ most_counted) × (s.terms.first ≤ s.first * L s.first)
    first_able = able (own first) s.first s.terms.first all.first_sum all.first_terms

    pub second_able : (s.second ≤ most_counted) × (s.terms.second ≤ s.second * L s.second)
    second_able = able (own second) s.second s.terms.second all.second_sum all.second_terms

    spread_is : (c : ℕ → ℕ) (n w r : ℕ) → n ≡ sum most_symbols c → w ≡ terms most_symbols c → r ≡ fit_times * (n * L n - w) → r ≡ spread most_symbols c
    unfolding spread
    spread_is c n w r total part e = rw (sym total, sym part) e

    -- the losses, from what `spread_of` gives
    pub losses_are : (costs r : ByKind) (x y z : ℕ) → SumOf costs (record { shared = x; first = y; second = z }) r → x ≡ fit_times * ((s.first + s.second) * L (s.first + s.second) - s.terms.shared) → y ≡ fit_times * (s.first * L s.first - s.terms.first)
        → z ≡ fit_times * (s.second * L s.second - s.terms.second) → LossesOf t costs r
    losses_are costs r x y z added e f g = record {
      shared = added.shared ∙ ap (λ (n : ℕ). costs.shared + n) (spread_is (counts_in t shared) (s.first + s.second) s.terms.shared x both all.shared_terms e);
      first = added.first ∙ ap (λ (n : ℕ). costs.first + n) (spread_is (counts_in t (own first)) s.first s.terms.first y all.first_sum all.first_terms f);
      second = added.second ∙ ap (λ (n : ℕ). costs.second + n) (spread_is (counts_in t (own second)) s.second s.terms.second z all.second_sum all.second_terms g);
    }
