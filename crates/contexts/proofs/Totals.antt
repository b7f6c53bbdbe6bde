-- N(s), the sum over the symbols, is the number of counted places that s stands before. Assumes nothing.
use Prim.Native.Nat.{ℕ, ◌+◌, ◌≤◌}
use mathlib.Core.Path.{◌≡◌, refl, ap, ◌∙◌}
use mathlib.Core.Bool.{Bool, true, false, ◌&&◌, ◌||◌, and_assoc, and-false}
use mathlib.Core.List.{List, [], ◌∷◌}
use native.Mathlib.Omega.{arith}
use lib.ListN.{length}
use lib.Dec.{T, eqb, ltb, leb}
use borrow.Author.Tests.{lt-ltb, ne_eqb}
use Rattle.numbers.specs.Sum.{one}
use Rattle.numbers.proofs.Tests.{one_le}
use Rattle.numbers.proofs.Orders.{eqb_sym}
use Rattle.numbers.proofs.Sums.{sum_cong, sum_zero, sum_pick}
use Rattle.contexts.specs.Context.{is_context, begins}
use Rattle.contexts.specs.Counts.{N, N_total, seen}
use Rattle.contexts.proofs.Strings.{newest_below, older_context}

-- the counted places that s stands before
unfoldable pub visits : ℕ → List ℕ → List ℕ → ℕ
visits from [] s = 0
visits from (x ∷ past) s = visits from past s + one (leb from (length past) && begins s past)

-- every symbol of the past is one of the alphabet's
abbrev pub Over : ℕ → List ℕ → Type 0
Over A past = T (is_context A (length past) past)

pub total_is_visits : (A from : ℕ) (past s : List ℕ) → Over A past → N_total A from past s ≡ visits from past s
unfolding N visits
total_is_visits A from [] s o = sum_zero A (λ a l. refl)
total_is_visits A from (x ∷ past) s o =
    sum_cong A {g = λ a. N from past s a + one ((leb from (length past) && begins s past) && eqb a x)}
    (λ a l. rw (and_assoc (leb from (length past)), eqb_sym a x))
    ∙ sum_pick A x (N from past s) (leb from (length past) && begins s past) (newest_below A (length past) x past o)
    ∙ ap (λ (z : ℕ). z + one (leb from (length past) && begins s past)) (total_is_visits A from past s (older_context A (length past) x past o))

-- a symbol that is not of the alphabet is never counted
pub N_outside : (A from : ℕ) (past s : List ℕ) (a : ℕ) → Over A past → A ≤ a → N from past s a ≡ 0
unfolding N
N_outside A from [] s a o h = refl
N_outside A from (x ∷ past) s a o h =
    let l = newest_below A (length past) x past o in
    rw (ne_eqb x a (λ e. omega arith), and-false (begins s past), and-false (leb from (length past)))
    (let ih = N_outside A from past s a (older_context A (length past) x past o) h in omega arith)

-- a total is at most the sample's length
pub visits_le : (from : ℕ) (past s : List ℕ) → visits from past s ≤ length past
unfolding visits
visits_le from [] s = omega arith
visits_le from (x ∷ past) s = omega (arith, visits_le from past s, one_le (leb from (length past) && begins s past))

pub total_le : (A from : ℕ) (past s : List ℕ) → Over A past → N_total A from past s ≤ length past
total_le A from past s o = omega (arith, total_is_visits A from past s o, visits_le from past s)

ltb_one : (m : ℕ) (c : Bool) → ltb 0 (m + one c) ≡ (c || ltb 0 m)
ltb_one m true = lt-ltb 0 (m + 1) (omega arith)
ltb_one m false = ap (ltb 0) (let e : m + 0 ≡ m = omega arith in e)

-- what a symbol more makes seen: the contexts that it follows
pub seen_more : (A from x : ℕ) (past s : List ℕ) → Over A (x ∷ past)
    → seen A from (x ∷ past) s ≡ ((leb from (length past) && begins s past) || seen A from past s)
unfolding visits
seen_more A from x past s o =
    rw (total_is_visits A from (x ∷ past) s o, total_is_visits A from past s (older_context A (length past) x past o))
    (ltb_one (visits from past s) (leb from (length past) && begins s past))
