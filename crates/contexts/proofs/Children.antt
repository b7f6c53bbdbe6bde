-- A context that is shorter than every counted place's past is seen as often as its children together. Assumes nothing.
use Prim.Native.Nat.{ℕ, zero, suc, ◌+◌, ◌<◌}
use mathlib.Core.Path.{◌≡◌, refl, sym, ap, ◌∙◌}
use mathlib.Core.Bool.{Bool, true, false, ◌&&◌, and_assoc}
use mathlib.Core.List.{List, [], ◌∷◌, ◌++◌}
use native.Mathlib.Omega.{arith}
use borrow.Author.Tests.{leb-true}
use lib.ListN.{length, get_or}
use lib.Dec.{T, eqb, leb}
use Rattle.numbers.specs.Sum.{one, sum}
use Rattle.numbers.proofs.Sums.{sum_cong, sum_zero, sum_pick}
use Rattle.contexts.specs.Context.{is_context, begins}
use Rattle.contexts.specs.Counts.{N}
use Rattle.contexts.proofs.Strings.{newest_below, older_context}
use Rattle.contexts.proofs.Totals.{Over}

-- a symbol of a string over the alphabet
symbol_below : (A d : ℕ) (past : List ℕ) → T (is_context A d past) → (j : ℕ) → j < length past → get_or past j 0 < A
unfolding is_context
symbol_below A d [] c j l = absurd (omega arith)
symbol_below A zero (x ∷ past) c j l = absurd c
symbol_below A (suc d) (x ∷ past) c zero l = newest_below A d x past c
symbol_below A (suc d) (x ∷ past) c (suc j) l = symbol_below A d past (older_context A d x past c) j (omega arith)

-- the child of s at b begins a longer past where s does and b is the symbol before it
begins_child : (s past : List ℕ) (b : ℕ) → length s < length past → begins (s ++ b ∷ []) past ≡ (begins s past && eqb b (get_or past (length s) 0))
begins_child [] [] b l = absurd (omega arith)
begins_child [] (x ∷ past) b l = and_true (eqb b x)
  where
    and_true : (c : Bool) → (c && true) ≡ c
    and_true true = refl
    and_true false = refl
begins_child (y ∷ s) [] b l = absurd (omega arith)
begins_child (y ∷ s) (x ∷ past) b l = rw (begins_child s past b (omega arith)) (sym (and_assoc (eqb y x) (begins s past) (eqb b (get_or past (length s) 0))))

swap : (p q e : Bool) → ((p && q) && e) ≡ ((p && e) && q)
swap true true true = refl
swap true true false = refl
swap true false true = refl
swap true false false = refl
swap false q e = refl

-- one place adds as much to s as to its children together
one_place : (A from : ℕ) (past s : List ℕ) (x a : ℕ) (f : ℕ → ℕ) → Over A past → length s < from
    → sum A (λ b. f b + one (leb from (length past) && (begins (s ++ b ∷ []) past && eqb x a))) ≡ sum A f + one (leb from (length past) && (begins s past && eqb x a))
one_place A from past s x a f o l = go (leb from (length past)) refl
  where
    go : (k : Bool) → leb from (length past) ≡ k
        → sum A (λ b. f b + one (k && (begins (s ++ b ∷ []) past && eqb x a))) ≡ sum A f + one (k && (begins s past && eqb x a))
    go false e = omega (arith, sum_cong A {f = λ b. f b + 0} {g = f} (λ b m. omega arith))
    go true e =
        let long : length s < length past = omega (arith, leb-true from (length past) e) in
        let y = get_or past (length s) 0 in
        sum_cong A {g = λ b. f b + one ((begins s past && eqb x a) && eqb b y)}
        (λ b m. rw (begins_child s past b long, swap (begins s past) (eqb b y) (eqb x a)))
        ∙ sum_pick A y f (begins s past && eqb x a) (symbol_below A (length past) past o (length s) long)

-- THEOREM. N(s,a) is the sum of N(bs,a) over the symbols b, where s is shorter than what stands before every counted place
pub N_children : (A from : ℕ) (past s : List ℕ) (a : ℕ) → Over A past → length s < from → sum A (λ b. N from past (s ++ b ∷ []) a) ≡ N from past s a
unfolding N
N_children A from [] s a o l = sum_zero A (λ b m. refl)
N_children A from (x ∷ past) s a o l =
    let older = older_context A (length past) x past o in
    one_place A from past s x a (λ b. N from past (s ++ b ∷ []) a) older l
    ∙ ap (λ (z : ℕ). z + one (leb from (length past) && (begins s past && eqb x a))) (N_children A from past s a older l)
