-- The loss of a triple, and that a score is a loss with a minus sign. Assumes nothing.
use Prim.Native.Nat.{ℕ, zero, suc, ◌+◌, ◌-◌, ◌≤◌}
use native.Mathlib.Nat.{add_comm}
use native.Mathlib.Omega.{arith}
use mathlib.Core.Path.{◌≡◌, refl, sym, ap, ap₂, subst₂, fun_ext, ◌∙◌}
use mathlib.Core.Bool.{Bool, true, false, cond}
use mathlib.Core.List.{List, [], ◌∷◌}
use lib.IntN.{ℤ, pos, ◌+ℤ◌, ◌-ℤ◌, ◌*ℤ◌}
use lib.Signed.{◌≤ℤ◌}
use Rattle.numbers.specs.Sum.{sum}
use Rattle.numbers.proofs.Sums.{sum_zero}
use Rattle.logarithm.proofs.Terms.{terms_le}
use Rattle.contexts.specs.Strings.{under, total}
use Rattle.contexts.specs.Sitting.{first, second, Sitting}
use Rattle.contexts.proofs.Totalling.{total_add}
use Rattle.estimate.specs.Trees.{Contexts, Kind, shared, own, Triple}
use Rattle.estimate.specs.Score.{counts, size_of, terms, whole, fit_times, fit, cost, Worths, worths, sumℤ, totalℤ, set_score, score}
use Rattle.estimate.specs.Recursion.{Losses, spread, losses}
use Rattle.estimate.proofs.Integers.{minus, minus_add, minus_times, minus_less, minus_le, le_minus}

-- what the string s adds to the loss of a set: its own loss where it is a member, and else 0
abbrev pub set_loss : (List ℕ → ℕ) → Contexts → List ℕ → ℕ
set_loss f t s = cond (t s) (f s) 0

-- and to that of a triple
abbrev pub loss_at : Losses → Triple → List ℕ → ℕ
loss_at f t s = set_loss (f shared) (t shared) s + (set_loss (f (own first)) (t (own first)) s + set_loss (f (own second)) (t (own second)) s)

abbrev pub loss : ℕ → ℕ → Losses → Triple → ℕ
loss A D f t = total A D (loss_at f t)

-- the loss of a triple is that of its three sets
pub loss_sets : (A D : ℕ) (f : Losses) (t : Triple)
    → loss A D f t ≡ total A D (set_loss (f shared) (t shared)) + (total A D (set_loss (f (own first)) (t (own first))) + total A D (set_loss (f (own second)) (t (own second))))
loss_sets A D f t =
    omega (
      arith,
      total_add A D (set_loss (f shared) (t shared)) (λ s. set_loss (f (own first)) (t (own first)) s + set_loss (f (own second)) (t (own second)) s),
      total_add A D (set_loss (f (own first)) (t (own first))) (set_loss (f (own second)) (t (own second))),
    )

-- ---- the worth of a context is its loss with a minus sign

-- what has these losses is worth this
abbrev pub minus_all : Losses → Worths
minus_all f k s = minus (f k s)

pub fit_spread : (A : ℕ) (c : ℕ → ℕ) → fit A c ≡ minus (spread A c)
unfolding spread
fit_spread A c = ap (λ (z : ℤ). pos fit_times *ℤ z) (minus_less (terms A c) (whole A c) (terms_le A c)) ∙ minus_times fit_times (whole A c - terms A c)

pub worths_losses : (x : Sitting) → worths x ≡ minus_all (losses x)
worths_losses x = fun_ext (λ k. fun_ext (λ s. one k s))
  where
    one : (k : Kind) (s : List ℕ) → worths x k s ≡ minus (losses x k s)
    one k s =
        let c = cost x.weight x.symbols (size_of x k) in
        let p = spread x.symbols (counts x k s) in
        ap (λ (z : ℤ). z -ℤ pos c) (fit_spread x.symbols (counts x k s)) ∙ minus_add p c ∙ ap minus (add_comm p c)

-- "an unseen context has fit 0"
pub unseen_spread : (A : ℕ) (c : ℕ → ℕ) → ((a : ℕ) → c a ≡ 0) → spread A c ≡ 0
unfolding spread
unseen_spread A c e = let t : sum A c ≡ 0 = sum_zero A (λ a l. e a) in rw t (omega arith)

pub unseen_fit : (A : ℕ) (c : ℕ → ℕ) → ((a : ℕ) → c a ≡ 0) → fit A c ≡ pos 0
unseen_fit A c e = fit_spread A c ∙ ap minus (unseen_spread A c e)

-- ---- the score of a triple is its loss with a minus sign

sum_minus : (n : ℕ) (f : ℕ → ℤ) (g : ℕ → ℕ) → ((a : ℕ) → f a ≡ minus (g a)) → sumℤ n f ≡ minus (sum n g)
unfolding sumℤ sum
sum_minus zero f g e = refl
sum_minus (suc n) f g e = ap₂ ◌+ℤ◌ (sum_minus n f g e) (e n) ∙ minus_add (sum n g) (g n)

total_minus : (A d : ℕ) (f : List ℕ → ℤ) (g : List ℕ → ℕ) → ((s : List ℕ) → f s ≡ minus (g s)) → totalℤ A d f ≡ minus (total A d g)
unfolding totalℤ total
total_minus A zero f g e = e []
total_minus A (suc d) f g e =
    ap₂ ◌+ℤ◌ (e []) (sum_minus A (λ a. totalℤ A d (under a f)) (λ a. total A d (under a g)) (λ a. total_minus A d (under a f) (under a g) (λ s. e (a ∷ s)))) ∙ minus_add (g []) (sum A (λ a. total A d (under a g)))

minus_cond : (b : Bool) (n : ℕ) → cond b (minus n) (pos 0) ≡ minus (cond b n 0)
minus_cond true n = refl
minus_cond false n = refl

pub set_score_loss : (A d : ℕ) (f : List ℕ → ℕ) (t : Contexts) → set_score A d (λ s. minus (f s)) t ≡ minus (total A d (set_loss f t))
set_score_loss A d f t = total_minus A d (λ s. cond (t s) (minus (f s)) (pos 0)) (set_loss f t) (λ s. minus_cond (t s) (f s))

pub score_loss : (A d : ℕ) (f : Losses) (t : Triple) → score A d (minus_all f) t ≡ minus (loss A d f t)
score_loss A d f t =
    ap₂ ◌+ℤ◌ (set_score_loss A d (f shared) (t shared))
    (ap₂ ◌+ℤ◌ (set_score_loss A d (f (own first)) (t (own first))) (set_score_loss A d (f (own second)) (t (own second)))
    ∙ minus_add (total A d (set_loss (f (own first)) (t (own first)))) (total A d (set_loss (f (own second)) (t (own second)))))
    ∙ minus_add (total A d (set_loss (f shared) (t shared))) _
    ∙ ap minus (sym (loss_sets A d f t))

-- so what scores at least as much loses at most as much, and the other way round
module _ (A d : ℕ) (f : Losses) (t u : Triple) where
  pub more_score : loss A d f u ≤ loss A d f t → score A d (minus_all f) t ≤ℤ score A d (minus_all f) u
  more_score l = subst₂ ◌≤ℤ◌ (sym (score_loss A d f t)) (sym (score_loss A d f u)) (minus_le _ _ l)

  pub less_loss : score A d (minus_all f) t ≤ℤ score A d (minus_all f) u → loss A d f u ≤ loss A d f t
  less_loss l = le_minus _ _ (subst₂ ◌≤ℤ◌ (score_loss A d f t) (score_loss A d f u) l)

module _ (A d : ℕ) (f : List ℕ → ℕ) (t u : Contexts) where
  pub more_set_score : total A d (set_loss f u) ≤ total A d (set_loss f t) → set_score A d (λ s. minus (f s)) t ≤ℤ set_score A d (λ s. minus (f s)) u
  more_set_score l = subst₂ ◌≤ℤ◌ (sym (set_score_loss A d f t)) (sym (set_score_loss A d f u)) (minus_le _ _ l)

  pub less_set_loss : set_score A d (λ s. minus (f s)) t ≤ℤ set_score A d (λ s. minus (f s)) u → total A d (set_loss f u) ≤ total A d (set_loss f t)
  less_set_loss l = le_minus _ _ (subst₂ ◌≤ℤ◌ (set_score_loss A d f t) (set_score_loss A d f u) l)
