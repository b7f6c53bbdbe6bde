-- The joint context tree estimate of the source's section 4, with the tie rules of document 01.
-- It minimises a loss, which is a natural number: a context's cost less its fit. Assumes nothing.
use Rattle.std.specs.Prelude.{ℕ, zero, suc, ◌+◌, ◌-◌, ◌*◌, min, false, cond, ◌&&◌, List, [], ◌∷◌, leb, ltb}
use Rattle.numbers.specs.Sum.{sum}
use Rattle.contexts.specs.Strings.{under}
use Rattle.contexts.specs.Sitting.{first, second, Sitting}
use Rattle.estimate.specs.Trees.{Contexts, Kind, shared, own, Triple, root, shared_leaf, separate_trees, below}
use Rattle.estimate.specs.Score.{counts, size_of, terms, whole, fit_times, cost}

-- what each context would lose as a member of each kind
abbrev pub Losses : Type 0
Losses = Kind → List ℕ → ℕ

-- the fit with its sign turned
unfoldable pub spread : ℕ → (ℕ → ℕ) → ℕ
spread A c = fit_times * (whole A c - terms A c)

abbrev pub losses : Sitting → Losses
losses x k s = cost x.weight x.symbols (size_of x k) + spread x.symbols (counts x k s)

-- ---- From the leaves to the root. d is the depth left below the string where the recursion stands, and f the losses as seen from there.

-- the least loss of a tree of one sample: the source's V(X), and V(Y)
unfoldable pub best : ℕ → ℕ → (List ℕ → ℕ) → ℕ
best A zero f = f []
best A (suc d) f = min (f []) (sum A (λ a. best A d (under a f)))

-- of two separate trees
abbrev pub separate : ℕ → ℕ → Losses → ℕ
separate A d f = best A d (f (own first)) + best A d (f (own second))

-- the least loss of a triple: the source's V(X;Y)
unfoldable pub joint : ℕ → ℕ → Losses → ℕ
joint A zero f = min (f shared []) (separate A zero f)
joint A (suc d) f = min (f shared []) (min (separate A (suc d) f) (sum A (λ a. joint A d (below a f))))

-- ---- From the root to the leaves. Of two that lose the same the earlier is taken.

-- a set for each symbol, put together as the children of the empty string
abbrev pub split : ℕ → (ℕ → Contexts) → Contexts
split A g [] = false
split A g (a ∷ s) = ltb a A && g a s

abbrev pub split_both : ℕ → (ℕ → Triple) → Triple
split_both A h k = split A (λ a. h a k)

-- "leaf before split"
unfoldable pub tree : ℕ → ℕ → (List ℕ → ℕ) → Contexts
tree A zero f = root
tree A (suc d) f = cond (leb (f []) (sum A (λ a. best A d (under a f)))) root (split A (λ a. tree A d (under a f)))

-- "shared leaf first, then two separate trees, then a split of both .. At depth D only the first two exist."
unfoldable pub estimate : ℕ → ℕ → Losses → Triple
estimate A zero f = cond (leb (f shared []) (separate A zero f)) shared_leaf (separate_trees (λ i. tree A zero (f (own i))))
estimate A (suc d) f =
    cond (leb (f shared []) (min (separate A (suc d) f) (sum A (λ a. joint A d (below a f)))))
    shared_leaf
    (cond (leb (separate A (suc d) f) (sum A (λ a. joint A d (below a f))))
    (separate_trees (λ i. tree A (suc d) (f (own i))))
    (split_both A (λ a. estimate A d (below a f))))

-- the estimate of a sitting: what its report holds
abbrev pub estimate_of : Sitting → Triple
estimate_of x = estimate x.symbols x.depth (losses x)
