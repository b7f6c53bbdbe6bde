-- A sample is too short exactly where it has symbols and none of them is counted; with D 0 no report is refused for it. Assumes nothing.
use Prim.Native.Nat.{ℕ, ◌+◌, ◌≤◌, ◌<◌}
use native.Mathlib.Omega.{arith}
use native.Mathlib.Decide.{dec_le}
use mathlib.Core.Path.{◌≡◌, refl}
use mathlib.Core.Logic.{◌↔◌}
use mathlib.Core.Bool.{Bool, true, false, cond, ◌&&◌, ◌||◌}
use mathlib.Core.List.{List, [], ◌∷◌}
use borrow.Author.Tests.{ltb-true, leb-true, leb-false, lt-ltb, le-leb, lt-leb, eq-eqb, eqb-false}
use lib.Dec.{eqb, leb, ltb}
use lib.ListN.{length}
use Rattle.numbers.specs.Sum.{one}
use Rattle.numbers.proofs.Tests.{is_true, is_false, of_true, not_both, left, right}
use Rattle.contexts.specs.Counts.{N}
use Rattle.contexts.specs.Sitting.{Sample, first, second, Progress, sat}
use Rattle.replay.specs.Room.{Opening}
use Rattle.replay.specs.Table.{refused, answered, verdict_of}
use Rattle.replay.specs.Machine.{asking, at_desk, no_such_desk, own_lines, asking_table, table_at, table_of, answer_of, verdict}
use Rattle.replay.proofs.Tables.{no_refusal, number_same}
use Rattle.rules.specs.Feed.{counted_from}
use Rattle.rules.specs.Report.{some_empty, too_short, some_short, does_not_fit}
use Rattle.rules.specs.Rules.{Answer, reporting, lines_of, rules}
use Rattle.rules.specs.Short.{NoneCounted, ShortExactly, NeverAtDepth0}

module _ (o : Opening) (n : ℕ) where
  is_short : too_short o n ≡ true → (0 < n) × (n ≤ o.depth)
  is_short e =
      let t = of_true (too_short o n) e in
      (ltb-true 0 n (is_true (ltb 0 n) (left (ltb 0 n) (leb n o.depth) t)), leb-true n o.depth (is_true (leb n o.depth) (right (ltb 0 n) (leb n o.depth) t)))

  pub long_enough : o.depth < n → too_short o n ≡ false
  long_enough h = is_false (too_short o n) (λ t. let z = (is_short (is_true (too_short o n) t)).1 in omega arith)

  pub too_short_lem : 0 < n → n ≤ o.depth → too_short o n ≡ true
  too_short_lem some h = rw (lt-ltb 0 n some, le-leb n o.depth h)

  not_short : (n ≡ 0 → ⊥) → too_short o n ≡ false → o.depth < n
  not_short some f = elim (dec_le n o.depth) [
    | yes short ↦ absurd (not_both (too_short o n) (too_short_lem (omega arith) short) f)
    | no long ↦ omega arith
  ]

neither : (a b : Bool) → a || b ≡ false → (a ≡ false) × (b ≡ false)
neither false false e = (refl, refl)
neither false true e = absurd (not_both true refl e)
neither true b e = absurd (not_both true refl e)

-- where neither 11 nor 24 applies, each sample has more symbols than D
pub both_long : (o : Opening) (p : Progress) → some_empty p ≡ false → some_short o p ≡ false → (i : Sample) → o.depth < p.size i
both_long o p e f first =
    not_short o (p.size first) (eqb-false (p.size first) 0 (neither (eqb (p.size first) 0) (eqb (p.size second) 0) e).0)
    (neither (too_short o (p.size first)) (too_short o (p.size second)) f).0
both_long o p e f second =
    not_short o (p.size second) (eqb-false (p.size second) 0 (neither (eqb (p.size first) 0) (eqb (p.size second) 0) e).1)
    (neither (too_short o (p.size first)) (too_short o (p.size second)) f).1

-- no symbol with fewer than `from` before it is counted
none_counted : (from : ℕ) (past s : List ℕ) (a : ℕ) → length past ≤ from → N from past s a ≡ 0
unfolding N
none_counted from [] s a h = refl
none_counted from (x ∷ past) s a h = let rest = none_counted from past s a (omega arith) in rw (lt-leb from (length past) h) (omega (arith, rest))

-- a symbol that is not counted has fewer before it: else the empty context counts it
not_counted : (from x : ℕ) (past : List ℕ) → N from (x ∷ past) [] x ≡ 0 → length past < from
unfolding N
not_counted from x past z = go (leb from (length past)) refl (rw (eq-eqb x x refl) at z)
  where
    go : (t : Bool) → leb from (length past) ≡ t → N from past [] x + one (t && true) ≡ 0 → length past < from
    go true e z = absurd (omega (arith, z))
    go false e z = leb-false from (length past) e

-- THEOREM. "a sample no longer than the depth has no counted place"; a longer one has
pub short_exactly : ShortExactly
short_exactly o w i = go (w i)
  where
    go : (past : List ℕ) → (too_short o (length past) ≡ true) ↔ ((0 < length past) × ((s : List ℕ) (a : ℕ) → N (counted_from o) past s a ≡ 0))
    go [] = (λ e. let h = is_short o 0 e in (h.0, λ s a. none_counted (counted_from o) [] s a h.1), λ h. absurd (omega (arith, h.0)))
    go (x ∷ past) = (
      λ e. let h = is_short o (length (x ∷ past)) e in (h.0, λ s a. none_counted (counted_from o) (x ∷ past) s a h.1),
      λ h. too_short_lem o (length (x ∷ past)) h.0 (not_counted (counted_from o) x past (h.1 [] x)),
    )

-- so a sample that has more symbols than D has one that is counted
pub long_counted : (o : Opening) (w : Sample → List ℕ) (i : Sample) → o.depth < length (w i) → NoneCounted o w i → ⊥
long_counted o w i h none = not_both (too_short o (length (w i))) ((short_exactly o w i).1 (omega arith, none)) (long_enough o (length (w i)) h)

-- with D 0 no sample is too short
none_at_depth_0 : (o : Opening) (n : ℕ) → o.depth ≡ 0 → too_short o n ≡ false
none_at_depth_0 o n e = is_false (too_short o n) (λ t. let h = is_short o n (is_true (too_short o n) t) in omega (arith, e, h.0, h.1))

-- THEOREM. With D 0 no report is refused with 24: of its table the line of 24 does not apply, and the others have other numbers
pub never_at_depth_0 : NeverAtDepth0
unfolding verdict verdict_of table_of table_at asking_table own_lines lines_of
never_at_depth_0 ρ d sheet place o p at_desk_holds e v =
    go (answer_of rules ρ (at_desk d (asking (reporting sheet place)))) (no_such_desk d) (some_empty p) (does_not_fit sheet place (sat o.symbols o.depth o.weight p)) (rw (at_desk_holds, none_at_depth_0 o (p.size first) e, none_at_depth_0 o (p.size second) e) at v)
  where
    go : (x : Answer) (a b c : Bool) → cond a (refused 2) (cond b (refused 11) (cond c (refused 12) (answered x))) ≡ refused 24 → ⊥
    go x true b c q = let z = number_same q in omega (arith, z)
    go x false true c q = let z = number_same q in omega (arith, z)
    go x false false true q = let z = number_same q in omega (arith, z)
    go x false false false q = no_refusal refl q
