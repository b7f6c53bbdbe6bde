-- E13 of a desk's refusals: such feeds and reports have the same lines. Assumes nothing.
use Prim.Native.Nat.{ℕ, ◌+◌, ◌/◌, ◌≤◌, ◌<◌}
use native.Mathlib.Omega.{arith}
use mathlib.Core.Path.{◌≡◌, refl, sym, ap, ap₂, ◌∙◌}
use mathlib.Core.Bool.{Bool, false}
use mathlib.Core.List.{List, [], ◌∷◌}
use lib.ListN.{length}
use lib.Dec.{leb, ltb, eqb}
use borrow.Author.Tests.{lt-leb}
use Rattle.numbers.specs.Limits.{row_width, longest, most_symbols}
use Rattle.contexts.specs.Sitting.{Sample, first, second, sample_of, Sitting, Progress, sat, contexts_held}
use Rattle.estimate.proofs.Exchange.{other_other}
use Rattle.rows.specs.Rows.{report_of}
use Rattle.rows.proofs.Again.{as_many}
use Rattle.replay.specs.Room.{Opening}
use Rattle.replay.specs.Table.{◌when◌}
use Rattle.rules.specs.Feed.{counted_from, after_feed, not_of_sitting, is_full, past_reservation, feed_lines}
use Rattle.rules.specs.Report.{Reported, some_empty, some_short, does_not_fit, report_lines}
use Rattle.rules.specs.Strings.{push, StandsFor}
use Rattle.rules.proofs.TrueCounts.{stands_fed}
use Rattle.rules.proofs.OwnReport.{many_same, own_report}
use Rattle.demands.specs.Exchange.{Way, exchanging, renaming, both, sample_by, symbol_by, strings_by, NamedAlike, number_of}
use Rattle.demands.proofs.Exchange.{report_by}
use Rattle.demands.proofs.ExchangedRuns.{same_sitting}
use Rattle.demands.proofs.ExchangedHolding.{lengths_by, held_by_lem, either_by, short_by, fed_alike}

-- ---- a feed and its like

sample_twice : {A : ℕ} (way : Way A) (i : Sample) → sample_by way (sample_by way i) ≡ i
sample_twice exchanging i = other_other i
sample_twice (renaming π r) i = refl
sample_twice (both π r) i = other_other i

symbol_within : {A : ℕ} (way : Way A) (a : ℕ) → a < A → symbol_by way a < A
symbol_within exchanging a l = l
symbol_within (renaming π r) a l = r.within a l
symbol_within (both π r) a l = r.within a l

pub sample_number : (i : Sample) → sample_of (number_of i) ≡ i
sample_number first = refl
sample_number second = refl

of_sitting : (o : Opening) (i : Sample) (a : ℕ) → a < o.symbols → not_of_sitting o (number_of i) a ≡ false
of_sitting o first a l = lt-leb o.symbols a l
of_sitting o second a l = lt-leb o.symbols a l

-- ---- the same lines at two desks

module _ (o p : Opening) (way : Way o.symbols) (w : Sample → List ℕ) (x y : Progress) (n : NamedAlike o p) (S : StandsFor o w x) (S' : StandsFor p (strings_by way w) y) where
  sizes : (i : Sample) → y.size i ≡ x.size (sample_by way i)
  sizes i = S'.sizes i ∙ lengths_by way w i ∙ sym (S.sizes (sample_by way i))

  module _ (same-reserve : p.reserve ≡ o.reserve) (i : Sample) (a : ℕ) (l : a < o.symbols) where
    abbrev j : Sample
    j = sample_by way i

    abbrev b : ℕ
    b = symbol_by way a

    below : b < p.symbols
    below = let m = symbol_within way a l in let e = n.symbols in omega arith

    held : contexts_held (sat p.symbols p.depth p.weight (after_feed p j b y)) ≡ contexts_held (sat o.symbols o.depth o.weight (after_feed o i a x))
    held =
        let after = stands_fed o w x S i a l in
        many_same p (push j b (strings_by way w)) (after_feed p j b y) (stands_fed p (strings_by way w) y S' j b below)
        ∙ ap contexts_held (same_sitting o p (push j b (strings_by way w)) (strings_by way (push i a w)) n (fed_alike o.symbols way w i a))
        ∙ held_by_lem o.symbols o.depth o.weight (counted_from o) way (push i a w) after.over
        ∙ sym (many_same o (push i a w) (after_feed o i a x) after)

    full : is_full y (number_of j) ≡ is_full x (number_of i)
    full = ap (leb longest) (ap y.size (sample_number j) ∙ sizes j ∙ ap x.size (sample_twice way i ∙ sym (sample_number i)))

    past : past_reservation p y (number_of j) b ≡ past_reservation o x (number_of i) a
    past =
        ap₂ ltb same-reserve
        (ap (λ (k : Sample). contexts_held (sat p.symbols p.depth p.weight (after_feed p k b y))) (sample_number j)
        ∙ held
        ∙ sym (ap (λ (k : Sample). contexts_held (sat o.symbols o.depth o.weight (after_feed o k a x))) (sample_number i)))

    pub feeds_by : feed_lines p y (number_of j) b ≡ feed_lines o x (number_of i) a
    feeds_by =
        ap (λ (t : Bool). 8 when t ∷ 9 when is_full y (number_of j) ∷ 10 when past_reservation p y (number_of j) b ∷ []) (of_sitting p j b below ∙ sym (of_sitting o i a l))
        ∙ ap₂ (λ (t u : Bool). 8 when not_of_sitting o (number_of i) a ∷ 9 when t ∷ 10 when u ∷ []) full past

  module _ (few : o.symbols ≤ most_symbols) where
    as_many_rows : length (report_of (sat p.symbols p.depth p.weight y)) ≡ length (report_of (sat o.symbols o.depth o.weight x))
    as_many_rows =
        ap (λ (r : Reported). length r.rows) (own_report p (strings_by way w) y S')
        ∙ ap (λ (z : Sitting). length (report_of z)) (same_sitting o p (strings_by way w) (strings_by way w) n (λ i. refl))
        ∙ as_many (report_by o.symbols o.depth o.weight (counted_from o) few way w S.over).same_rows
        ∙ sym (ap (λ (r : Reported). length r.rows) (own_report o w x S))

    pub reports_by : (sheet place : ℕ) → report_lines p y sheet place ≡ report_lines o x sheet place
    reports_by sheet place =
        ap₂ (λ (t : Bool) (k : ℕ). 11 when t ∷ 24 when some_short p y ∷ 12 when ltb (sheet / row_width) (place + k) ∷ []) (either_by way (λ k. eqb k 0) y.size x.size sizes) as_many_rows
        ∙ ap (λ (t : Bool). 11 when some_empty x ∷ 24 when t ∷ 12 when does_not_fit sheet place (sat o.symbols o.depth o.weight x) ∷ [])
        (short_by way o p y.size x.size n.depth sizes)
