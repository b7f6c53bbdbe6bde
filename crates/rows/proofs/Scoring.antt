-- The score of a triple is that of the list of its members, and how many members there can be. Assumes nothing.
use Prim.Native.Nat.{ℕ, zero, suc, ◌+◌, ◌*◌, ◌≤◌}
use native.Mathlib.Nat.{le_refl}
use native.Mathlib.Omega.{arith}
use mathlib.Core.Path.{◌≡◌, refl, sym, ap, ap₂, ◌∙◌}
use mathlib.Core.Bool.{Bool, true, false, cond}
use mathlib.Core.List.{List, [], ◌∷◌, ◌++◌, map}
use lib.ListN.{length}
use lib.IntN.{◌+ℤ◌}
use Rattle.numbers.specs.Limits.{most_symbols, deepest}
use Rattle.numbers.specs.Sum.{sum}
use Rattle.numbers.proofs.Sums.{sum_cong}
use Rattle.contexts.specs.Strings.{total, strings}
use Rattle.contexts.specs.Sitting.{first, second, Sitting}
use Rattle.contexts.proofs.Totalling.{total_mono, total_same, strings_mono}
use Rattle.estimate.specs.Trees.{shared, own, Triple, below}
use Rattle.estimate.specs.Score.{Worths, worths, score}
use Rattle.estimate.specs.Recursion.{Losses, losses}
use Rattle.estimate.proofs.Integers.{minus, minus_add}
use Rattle.estimate.proofs.Loss.{loss_at, loss, worths_losses}
use Rattle.estimate.proofs.Optimal.{score_of_lem}
use Rattle.rows.specs.Members.{Member, member, prefixed, gather, only_if, here, members}
use Rattle.rows.specs.Rows.{score_of}

-- the loss of a list of members
unfoldable pub loss_of : Losses → List Member → ℕ
loss_of f [] = 0
loss_of f (p ∷ ps) = f p.kind p.context + loss_of f ps

loss_append : (f : Losses) (xs ys : List Member) → loss_of f (xs ++ ys) ≡ loss_of f xs + loss_of f ys
unfolding loss_of
loss_append f [] ys = omega arith
loss_append f (x ∷ xs) ys = omega (arith, loss_append f xs ys)

loss_push : (f : Losses) (a : ℕ) (xs : List Member) → loss_of f (map (prefixed a) xs) ≡ loss_of (below a f) xs
unfolding loss_of
loss_push f a [] = refl
loss_push f a (x ∷ xs) = omega (arith, loss_push f a xs)

loss_gather : (f : Losses) (n : ℕ) (g : ℕ → List Member) → loss_of f (gather n g) ≡ sum n (λ a. loss_of f (g a))
unfolding gather loss_of sum
loss_gather f zero g = refl
loss_gather f (suc n) g = omega (arith, loss_append f (gather n g) (g n), loss_gather f n g)

loss_only : (f : Losses) (b : Bool) (r : Member) (rest : List Member) → loss_of f (only_if b r rest) ≡ cond b (f r.kind r.context) 0 + loss_of f rest
unfolding loss_of
loss_only f true r rest = refl
loss_only f false r rest = omega arith

loss_here : (f : Losses) (t : Triple) → loss_of f (here t) ≡ loss_at f t []
unfolding loss_of
loss_here f t =
    omega (
      arith,
      loss_only f (t shared []) (member shared []) (only_if (t (own first) []) (member (own first) []) (only_if (t (own second) []) (member (own second) []) [])),
      loss_only f (t (own first) []) (member (own first) []) (only_if (t (own second) []) (member (own second) []) []),
      loss_only f (t (own second) []) (member (own second) []) [],
    )

-- the members of a triple lose what the triple loses
pub members_loss : (A d : ℕ) (f : Losses) (t : Triple) → loss_of f (members A d t) ≡ loss A d f t
unfolding members total
members_loss A zero f t = loss_here f t
members_loss A (suc d) f t =
    omega (
      arith,
      loss_append f (here t) (gather A (λ a. map (prefixed a) (members A d (below a t)))),
      loss_here f t,
      loss_gather f A (λ a. map (prefixed a) (members A d (below a t))),
      sum_cong A (λ a l. loss_push f a (members A d (below a t)) ∙ members_loss A d (below a f) (below a t)),
    )

scores_lose : (x : Sitting) (ps : List Member) → score_of x ps ≡ minus (loss_of (losses x) ps)
unfolding score_of loss_of
scores_lose x [] = refl
scores_lose x (p ∷ ps) =
    ap₂ ◌+ℤ◌ (ap (λ (w : Worths). w p.kind p.context) (worths_losses x)) (scores_lose x ps)
    ∙ minus_add (losses x p.kind p.context) (loss_of (losses x) ps)

-- THEOREM. The members' fits less their costs add up to the score of the triple
pub members_score : (x : Sitting) (t : Triple) → score_of x (members x.symbols x.depth t) ≡ score x.symbols x.depth (worths x) t
members_score x t =
    scores_lose x (members x.symbols x.depth t) ∙ ap minus (members_loss x.symbols x.depth (losses x) t) ∙ sym (score_of_lem x t)

-- ---- how many there are: at most three for each string

length_loss : (rs : List Member) → length rs ≡ loss_of (λ k s. 1) rs
unfolding loss_of
length_loss [] = refl
length_loss (r ∷ rs) = omega (arith, length_loss rs)

pub members_few : (A d : ℕ) (t : Triple) → length (members A d t) ≤ strings A d * 3
members_few A d t =
    omega (arith, length_loss (members A d t), members_loss A d (λ k s. 1) t, total_mono A d {g = loss_at (λ k s. 1) t} {h = λ s. 3} most, total_same A d 3)
  where
    one : (b : Bool) → cond b 1 0 ≤ 1
    one true = le_refl 1
    one false = omega arith

    most : (s : List ℕ) → loss_at (λ k s. 1) t s ≤ 3
    most s = omega (arith, one (t shared s), one (t (own first) s), one (t (own second) s))

-- within the limits of document 01
pub members_limit : (A d : ℕ) (t : Triple) → A ≤ most_symbols → d ≤ deepest → length (members A d t) ≤ strings most_symbols deepest * 3
members_limit A d t p q = omega (arith, members_few A d t, strings_mono A most_symbols d deepest p q)
