-- Renaming the symbols one to one renames the contexts of the estimate, and leaves its score: of any losses, so for every weight. Assumes nothing.
use Prim.Native.Nat.{ℕ, zero, suc, ◌+◌, ◌*◌, min, ◌<◌}
use mathlib.Core.Path.{◌≡◌, refl, sym, ap, ap₂, ◌∙◌}
use mathlib.Core.List.{List, [], ◌∷◌, map}
use lib.Dec.{T, leb, ltb, lt→ltb}
use Rattle.numbers.specs.Sum.{sum}
use Rattle.numbers.specs.Renames.{Renames}
use Rattle.numbers.proofs.Tests.{is_true, choose₂}
use Rattle.numbers.proofs.Sums.{sum_cong}
use Rattle.numbers.proofs.Permuting.{sum_permute}
use Rattle.logarithm.specs.Logarithm.{L}
use Rattle.contexts.specs.Context.{is_context}
use Rattle.contexts.specs.Strings.{under}
use Rattle.contexts.specs.Sitting.{Sample, first, second, Sitting}
use Rattle.contexts.proofs.Strings.{newest_below, older_context}
use Rattle.estimate.specs.Trees.{Contexts, Kind, shared, own, Triple, root, shared_leaf, separate_trees, below}
use Rattle.estimate.specs.Score.{counts, terms, cost, worths, score}
use Rattle.estimate.specs.Recursion.{Losses, spread, losses, best, separate, joint, split, tree, estimate, estimate_of}
use Rattle.estimate.proofs.Integers.{minus}
use Rattle.estimate.proofs.Spreads.{spread_cong}
use Rattle.estimate.proofs.Tables.{kind_cong, size_cong}
use Rattle.estimate.proofs.Optimal.{score_estimate}
use Rattle.estimate.proofs.Agreeing.{estimate_alike, joint_alike}

-- ---- any losses

-- the losses as they look under the old names
abbrev renamed : (ℕ → ℕ) → Losses → Losses
renamed π f k s = f k (map π s)

root_renamed : (π : ℕ → ℕ) (s : List ℕ) → root s ≡ root (map π s)
root_renamed π [] = refl
root_renamed π (a ∷ s) = refl

leaf_renamed : (π : ℕ → ℕ) (k : Kind) (s : List ℕ) → shared_leaf k s ≡ shared_leaf k (map π s)
leaf_renamed π shared s = root_renamed π s
leaf_renamed π (own i) s = refl

module _ (A : ℕ) (π : ℕ → ℕ) (r : Renames A π) where
  best_renamed : (d : ℕ) (f : List ℕ → ℕ) → best A d (λ s. f (map π s)) ≡ best A d f
  unfolding best
  best_renamed zero f = refl
  best_renamed (suc d) f =
      ap (min (f [])) (sum_cong A (λ a l. best_renamed d (under (π a) f)) ∙ sum_permute A π r (λ a. best A d (under a f)))

  separate_renamed : (d : ℕ) (f : Losses) → separate A d (renamed π f) ≡ separate A d f
  separate_renamed d f = ap₂ ◌+◌ (best_renamed d (f (own first))) (best_renamed d (f (own second)))

  joint_renamed : (d : ℕ) (f : Losses) → joint A d (renamed π f) ≡ joint A d f
  unfolding joint
  joint_renamed zero f = ap (min (f shared [])) (separate_renamed zero f)
  joint_renamed (suc d) f =
      ap (min (f shared []))
      (ap₂ min (separate_renamed (suc d) f) (sum_cong A (λ a l. joint_renamed d (below (π a) f)) ∙ sum_permute A π r (λ a. joint A d (below a f))))

  split_renamed : (d : ℕ) (g h : ℕ → Contexts) → ((a : ℕ) (u : List ℕ) → a < A → T (is_context A d u) → g a u ≡ h (π a) (map π u))
      → (s : List ℕ) → T (is_context A (suc d) s) → split A g s ≡ split A h (map π s)
  split_renamed d g h e [] c = refl
  split_renamed d g h e (a ∷ u) c =
      let l = newest_below A d a u c in
      rw (is_true (ltb a A) (lt→ltb a A l), is_true (ltb (π a) A) (lt→ltb (π a) A (r.within a l))) (e a u l (older_context A d a u c))

  tree_renamed : (d : ℕ) (f : List ℕ → ℕ) (s : List ℕ) → T (is_context A d s) → tree A d (λ u. f (map π u)) s ≡ tree A d f (map π s)
  unfolding tree
  tree_renamed zero f s c = root_renamed π s
  tree_renamed (suc d) f s c =
      rw (sum_cong A (λ a l. best_renamed d (under (π a) f)) ∙ sum_permute A π r (λ a. best A d (under a f)))
      (choose₂ (λ (t v : Contexts). t s ≡ v (map π s)) (leb (f []) _) _ _ _ _ (root_renamed π s) (split_renamed d _ _ (λ a u l h. tree_renamed d (under (π a) f) u h) s c))

  trees_renamed : (d : ℕ) (f : Losses) (k : Kind) (s : List ℕ) → T (is_context A d s)
      → separate_trees (λ i. tree A d (renamed π f (own i))) k s ≡ separate_trees (λ i. tree A d (f (own i))) k (map π s)
  trees_renamed d f shared s c = refl
  trees_renamed d f (own i) s c = tree_renamed d (f (own i)) s c

  -- THEOREM. No tie rule looks at a symbol's number
  pub estimate_renamed : (d : ℕ) (f : Losses) (k : Kind) (s : List ℕ) → T (is_context A d s) → estimate A d (renamed π f) k s ≡ estimate A d f k (map π s)
  unfolding estimate
  estimate_renamed zero f k s c =
      rw (separate_renamed zero f)
      (choose₂ (λ (t v : Triple). t k s ≡ v k (map π s)) (leb (f shared []) _) _ _ _ _ (leaf_renamed π k s) (trees_renamed zero f k s c))
  estimate_renamed (suc d) f k s c =
      rw (separate_renamed (suc d) f, sum_cong A (λ a l. joint_renamed d (below (π a) f)) ∙ sum_permute A π r (λ a. joint A d (below a f)))
      (choose₂ (λ (t v : Triple). t k s ≡ v k (map π s)) (leb (f shared []) _) _ _ _ _ (leaf_renamed π k s)
      (choose₂ (λ (t v : Triple). t k s ≡ v k (map π s)) (leb (separate A (suc d) f) _) _ _ _ _ (trees_renamed (suc d) f k s c)
      (split_renamed d _ _ (λ a u l h. estimate_renamed d (below (π a) f) k u h) s c)))

  spread_permute : (c : ℕ → ℕ) → spread A (λ a. c (π a)) ≡ spread A c
  unfolding spread
  spread_permute c =
      let t : sum A (λ a. c (π a)) ≡ sum A c = sum_permute A π r c in
      let p : terms A (λ a. c (π a)) ≡ terms A c = sum_permute A π r (λ a. c a * L (c a)) in
      rw (t, p)

-- ---- two sittings of one A, D and weight: symbol a of the first is symbol π a of the second

module _ (A D weight : ℕ) (π : ℕ → ℕ) (r : Renames A π) (n m : Sample → ℕ) (c e : Sample → List ℕ → ℕ → ℕ) (sizes : (i : Sample) → n i ≡ m i)
    (same : (i : Sample) (s : List ℕ) (a : ℕ) → T (is_context A D s) → a < A → c i s a ≡ e i (map π s) (π a)) where
  abbrev x : Sitting
  x = record { symbols = A; depth = D; weight = weight; size = n; count = c }

  abbrev y : Sitting
  y = record { symbols = A; depth = D; weight = weight; size = m; count = e }

  pub counts_renamed : (k : Kind) (s : List ℕ) (a : ℕ) → T (is_context A D s) → a < A → counts x k s a ≡ counts y k (map π s) (π a)
  counts_renamed k s a h l = kind_cong k {g = λ i. c i s a} {h = λ i. e i (map π s) (π a)} (λ i. same i s a h l)

  losses_renamed : (k : Kind) (s : List ℕ) → T (is_context A D s) → losses x k s ≡ renamed π (losses y) k s
  losses_renamed k s h =
      ap₂ ◌+◌ (ap (cost weight A) (size_cong x y k sizes))
      (spread_cong A {c = counts x k s} {e = λ a. counts y k (map π s) (π a)} (λ a l. counts_renamed k s a h l) ∙ spread_permute A π r (counts y k (map π s)))

  -- THEOREM. The second's estimate has the new name of a context where the first's has the context, of the same kind; and the scores are the same
  pub estimates_renamed : (k : Kind) (s : List ℕ) → T (is_context A D s) → estimate_of x k s ≡ estimate_of y k (map π s)
  estimates_renamed k s h = ap (λ (t : Triple). t k s) (estimate_alike A D (losses x) (renamed π (losses y)) losses_renamed) ∙ estimate_renamed A π r D (losses y) k s h

  pub score_renamed : score A D (worths y) (estimate_of y) ≡ score A D (worths x) (estimate_of x)
  score_renamed =
      score_estimate y ∙ ap minus (sym (joint_alike A D (losses x) (renamed π (losses y)) losses_renamed ∙ joint_renamed A π r D (losses y))) ∙ sym (score_estimate x)
