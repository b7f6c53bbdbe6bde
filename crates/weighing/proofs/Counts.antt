-- What the records of a desk count: the table of a held context, its losses, and that an unseen context has the bare costs. Assumes nothing.
use Prim.Native.Nat.{ℕ, ◌+◌, ◌-◌, ◌*◌, ◌≤◌, ◌<◌}
use mathlib.Core.Path.{◌≡◌, sym, ap, ap₂, subst, ◌∙◌}
use mathlib.Core.Bool.{false}
use mathlib.Core.List.{List, [], ◌∷◌, ◌++◌, append-nil}
use native.Mathlib.Omega.{arith}
use native.Mathlib.Nat.{mul-le-mul}
use lib.ListN.{length, get_or}
use lib.Seq.{ext_get_or}
use lib.Dec.{T}
use Rattle.numbers.specs.Limits.{most_symbols, most_weight, most_counted}
use Rattle.numbers.specs.Sum.{sum}
use Rattle.numbers.proofs.Tests.{is_true, is_false, T?}
use Rattle.numbers.proofs.Sums.{sum_add, sum_past}
use Rattle.logarithm.proofs.Laws.{L_top, term_top}
use Rattle.contexts.specs.Context.{is_context}
use Rattle.contexts.specs.Keys.{key_of}
use Rattle.contexts.specs.Sitting.{Sample, first, second, Sitting, total_in, eight, table, row_in, sum_of}
use Rattle.estimate.specs.Trees.{Kind, shared, own, from}
use Rattle.estimate.specs.Score.{counts, size_of, cost}
use Rattle.estimate.specs.Recursion.{spread, losses}
use Rattle.estimate.specs.Table.{for_kind, CostsOf, most_cost, most_spread, LossesOf}
use Rattle.estimate.specs.declared.ByKind.{ByKind}
use Rattle.contexts.proofs.Tables.{eight_at, sum_eight}
use Rattle.estimate.proofs.Tables.{kind_none, table_losses}
use Rattle.estimate.proofs.Unseen.{Flat, unseen_losses, unseen_flat}
use Rattle.records.specs.Records.{width, records, counts_of, lookup}
use Rattle.records.specs.Held.{held, record_at, count_table}
use Rattle.records.proofs.Parts.{part_at, wide_records}
use Rattle.records.proofs.Counting.{length_counts, count_absent, wide_lookup}
use Rattle.records.proofs.Ranked.{lookup_found}
use Rattle.weighing.specs.declared.Desk.{Desk}
use Rattle.weighing.specs.Sitting.{sitting_in, Weighable}
use Rattle.weighing.specs.Visit.{most_loss, Small}
use Rattle.weighing.proofs.Cursor.{held_shorter}

-- eight numbers are those of a list of eight
eight_list : (c : ℕ → ℕ) (q : List ℕ) → length q ≡ most_symbols → ((a : ℕ) → c a ≡ get_or q a 0) → eight c ≡ q
eight_list c q h e = ext_get_or 0 (eight c) q (sym h) (λ a l. eight_at c a l ∙ e a)

-- what a context of a kind costs at most
price_small : (weight A n : ℕ) → weight ≤ most_weight → A ≤ most_symbols → n ≤ most_counted → cost weight A n ≤ most_cost
price_small weight A n light few h = let p : A - 1 ≤ most_symbols = omega arith in mul-le-mul light (mul-le-mul p (L_top n h))

-- .. and adds to its loss
spread_most : (A : ℕ) (c : ℕ → ℕ) → sum A c ≤ most_counted → spread A c ≤ most_spread
unfolding spread
spread_most A c h = let t = term_top (sum A c) h in omega arith

module _ (k : Desk) (n : ℕ) (l : List ℕ) (w : Weighable k n l) where
  abbrev sitting : Sitting
  sitting = sitting_in k (records n l)

  -- ---- a context's table is that of what stands under its key

  module _ (s : List ℕ) (c : T (is_context k.symbols k.depth s)) where
    counts_are : (i : Sample) → eight (sitting.count i s) ≡ counts_of i (lookup (key_of k.number s) (records n l))
    counts_are i = eight_list (sitting.count i s) (counts_of i (lookup (key_of k.number s) (records n l)))
        (length_counts i (lookup (key_of k.number s) (records n l)) (wide_lookup (key_of k.number s) (records n l) (wide_records n l w.standing.fits)))
        (λ a. rw (is_true (is_context k.symbols k.depth s) c))

    pub table_under : count_table (lookup (key_of k.number s) (records n l)) ≡ table sitting s
    table_under = ap₂ {C = List (List ℕ)} (λ a b. a ∷ b ∷ []) (sym (counts_are first)) (sym (counts_are second))

    -- .. that is, of the record at its place p
    pub table_here : (p : ℕ) → p < n → get_or l (width * p) 0 ≡ key_of k.number s → count_table (record_at p l) ≡ table sitting s
    table_here p here is = ap count_table (sym (lookup_found (key_of k.number s) n p l w.standing.rising here is ∙ part_at width n p l here)) ∙ table_under

  -- ---- its losses

  pub table_small : (s : List ℕ) → sum_of (row_in (table sitting s) first) + sum_of (row_in (table sitting s) second) ≤ most_counted
  table_small s = rw (all first, all second) (w.counted s)
    where
      all : (i : Sample) → sum_of (eight (sitting.count i s)) ≡ total_in sitting i s
      all i = sum_eight (sitting.count i s) ∙ sum_past k.symbols most_symbols (sitting.count i s) w.few (w.below i s)

  module _ (costs : ByKind) (priced : CostsOf k.weight k.symbols k.n k.m costs) where
    pub costs_small : (t : Kind) → for_kind costs t ≤ most_cost
    costs_small shared = rw priced.shared (price_small k.weight k.symbols (k.n + k.m) w.light w.few w.sized)
    costs_small (own first) = rw priced.first (price_small k.weight k.symbols k.n w.light w.few (omega (arith, w.sized)))
    costs_small (own second) = rw priced.second (price_small k.weight k.symbols k.m w.light w.few (omega (arith, w.sized)))

    pub losses_here : (s : List ℕ) (r : ByKind) → LossesOf (table sitting s) costs r → (t : Kind) → for_kind r t ≡ losses sitting t s
    losses_here s r o = table_losses sitting s costs r w.few (λ i a h. w.below i s a h) priced o

    costs_are : (t : Kind) → for_kind costs t ≡ cost k.weight k.symbols (size_of sitting t)
    costs_are shared = priced.shared
    costs_are (own first) = priced.first
    costs_are (own second) = priced.second

    pub losses_most : (s : List ℕ) (t : Kind) → losses sitting t s ≤ most_loss
    losses_most s t = omega (arith, costs_small t, costs_are t, spread_most k.symbols (counts sitting t s) (all t))
      where
        all : (t : Kind) → sum k.symbols (counts sitting t s) ≤ most_counted
        all shared = omega (arith, w.counted s, sum_add k.symbols (sitting.count first s) (sitting.count second s))
        all (own first) = omega (arith, w.counted s)
        all (own second) = omega (arith, w.counted s)

    pub small_here : (s : List ℕ) (r : ByKind) → ((t : Kind) → for_kind r t ≡ losses sitting t s) → Small r
    small_here s r e = record { first = rw (e (own first)) (losses_most s (own first)); second = rw (e (own second)) (losses_most s (own second)) }

    -- ---- a context that is not held

    module _ (s : List ℕ) (off : held (key_of k.number s) (records n l) ≡ false) where
      nothing : (i : Sample) (u : List ℕ) (a : ℕ) → sitting.count i (s ++ u) a ≡ 0
      nothing i u a = go (T? (is_context k.symbols k.depth (s ++ u)))
        where
          go : Dec (T (is_context k.symbols k.depth (s ++ u))) → sitting.count i (s ++ u) a ≡ 0
          go (yes c) =
              rw (is_true (is_context k.symbols k.depth (s ++ u)) c)
              (count_absent (key_of k.number (s ++ u)) i a (records n l)
              (is_false (held (key_of k.number (s ++ u)) (records n l)) (λ h. subst T off (held_shorter k n l w s u c h))))
          go (no f) = rw (is_false (is_context k.symbols k.depth (s ++ u)) f)

      pub absent_flat : (t : Kind) → Flat (from s (losses sitting) t)
      absent_flat t = unseen_flat sitting t s (λ u a. kind_none sitting t (s ++ u) a (λ i. nothing i u a))

      pub absent_losses : (t : Kind) → for_kind costs t ≡ losses sitting t s
      absent_losses t = costs_are t ∙ sym (unseen_losses sitting t s (λ a. kind_none sitting t s a (λ i. none i a)))
        where
          none : (i : Sample) (a : ℕ) → sitting.count i s a ≡ 0
          none i a = subst (λ (z : List ℕ). sitting.count i z a ≡ 0) (append-nil s) (nothing i [] a)
