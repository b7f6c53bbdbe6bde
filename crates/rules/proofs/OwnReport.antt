-- What stands for two strings holds their contexts, and reports and charts as their sitting does. Assumes nothing.
use Prim.Native.Nat.{ℕ, ◌+◌}
use mathlib.Core.Path.{◌≡◌, refl, ap, ap₂, ◌∙◌}
use mathlib.Core.List.{List, [], ◌∷◌, map, Memᴰ}
use lib.Dec.{T, ltb}
use lib.IntN.{ℤ}
use Rattle.numbers.specs.Sum.{one}
use Rattle.numbers.proofs.Sums.{sum_cong}
use Rattle.contexts.specs.Context.{is_context}
use Rattle.contexts.specs.Sitting.{Sample, first, second, Sitting, Progress, sat, total_in, is_held, contexts_held}
use Rattle.contexts.proofs.Totalling.{total_within}
use Rattle.estimate.specs.Trees.{Kind, shared, own}
use Rattle.estimate.specs.Score.{counts}
use Rattle.estimate.specs.Recursion.{estimate_of}
use Rattle.estimate.proofs.Agreeing.{same_estimate, same_score}
use Rattle.rows.specs.Members.{Member, members}
use Rattle.rows.specs.Rows.{Row, row_of, rows_of}
use Rattle.rows.proofs.Holding.{of_members}
use Rattle.chart.specs.Answer.{chart_of}
use Rattle.replay.specs.Room.{Opening}
use Rattle.rules.specs.Report.{report}
use Rattle.rules.specs.Strings.{sitting_for, StandsFor}

module _ (o : Opening) (w : Sample → List ℕ) (p : Progress) (S : StandsFor o w p) where
  abbrev x : Sitting
  x = sat o.symbols o.depth o.weight p

  abbrev y : Sitting
  y = sitting_for o w

  pub total_same : (i : Sample) (s : List ℕ) → T (is_context o.symbols o.depth s) → total_in x i s ≡ total_in y i s
  total_same i s c = sum_cong o.symbols (λ a l. S.counts i s a c)

  -- "A sitting holds as many contexts as there are strings s with N(s) > 0 in either sample"
  pub held_same : (s : List ℕ) → T (is_context o.symbols o.depth s) → is_held x s ≡ is_held y s
  held_same s c = ap (ltb 0) (ap₂ ◌+◌ (total_same first s c) (total_same second s c))

  pub many_same : contexts_held x ≡ contexts_held y
  many_same = total_within o.symbols o.depth (λ s c. ap one (held_same s c))

  counts_same : (k : Kind) (s : List ℕ) (a : ℕ) → T (is_context o.symbols o.depth s) → counts x k s a ≡ counts y k s a
  counts_same shared s a c = ap₂ ◌+◌ (S.counts first s a c) (S.counts second s a c)
  counts_same (own i) s a c = S.counts i s a c

  rows_same : (ps : List Member) → ((r : Member) → Memᴰ r ps → T (is_context o.symbols o.depth r.context)) → map (row_of x) ps ≡ map (row_of y) ps
  rows_same [] h = refl
  rows_same (r ∷ ps) h =
      let c = h r (Memᴰ.head refl) in
      let e : (a : ℕ) → counts x r.kind r.context a ≡ counts y r.kind r.context a = λ a. counts_same r.kind r.context a c in
      ap₂ {C = List Row} (λ (q : List ℕ) (qs : List Row). record { kind = r.kind; context = r.context; counts = q } ∷ qs) (rw (e 0, e 1, e 2, e 3, e 4, e 5, e 6, e 7))
      (rows_same ps (λ q m. h q (Memᴰ.tail m)))

  -- THEOREM. The report is the one of the strings' own sitting
  pub own_report : report x ≡ report y
  own_report =
      ap₂ (λ (rs : List Row) (n : ℤ). record { rows = rs; score = n })
      (rows_same (members o.symbols o.depth (estimate_of x)) (λ r m. (of_members o.symbols o.depth (estimate_of x) m).0)
      ∙ ap (rows_of y) (same_estimate o.symbols o.depth o.weight p.size y.size p.count y.count S.sizes S.counts))
      (same_score o.symbols o.depth o.weight p.size y.size p.count y.count S.sizes S.counts)

  -- THEOREM. So is the chart of each context
  pub own_chart : (s : List ℕ) (a : ℕ) → T (is_context o.symbols o.depth s) → chart_of x s a ≡ chart_of y s a
  own_chart s a c = rw (S.counts first s a c, S.counts second s a c, total_same first s c, total_same second s c)
