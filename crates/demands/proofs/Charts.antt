-- Every chart question that is answered says which samples saw the context, each with its share: at any store, and in any run of the
-- sitting's own strings. Assumes nothing.
use Prim.Native.Nat.{ℕ, ◌≤◌}
use native.Mathlib.Omega.{arith}
use mathlib.Core.Path.{◌≡◌, refl, sym, subst, ◌∙◌}
use mathlib.Core.Bool.{Bool, true, false, not, ◌||◌}
use mathlib.Core.List.{List}
use lib.Dec.{eqb, leb, ltb, eqb→eq}
use borrow.Author.Tests.{leb-false, ltb-false}
use Rattle.numbers.specs.Limits.{most_counted}
use Rattle.numbers.proofs.Tests.{left, right, of_true}
use Rattle.contexts.specs.Context.{is_context, code_of, decoded}
use Rattle.contexts.specs.Sitting.{Sample, Progress, sat, total_in}
use Rattle.contexts.proofs.Strings.{context_more}
use Rattle.contexts.proofs.Codes.{decoded_length}
use Rattle.chart.specs.Says.{ChartSays}
use Rattle.chart.specs.declared.Chart.{Chart}
use Rattle.chart.proofs.Sayings.{chart_says}
use Rattle.replay.specs.Room.{Opening}
use Rattle.replay.specs.Serial.{Course}
use Rattle.store.specs.Meaning.{SittingFits}
use Rattle.rules.specs.Question.{is_code, not_asked}
use Rattle.rules.specs.Rules.{Answer, charting, point, rules, lines_of, ask_answer}
use Rattle.rules.specs.Strings.{sitting_for}
use Rattle.rules.proofs.OwnReport.{total_same, own_chart}
use Rattle.demands.specs.AnyStore.{sitting_there}
use Rattle.demands.specs.Charts.{AskedOf, ChartAt, ChartsAtStores, ChartOfItsStrings, DemandOfCharts}
use Rattle.demands.proofs.Opened.{AnsweredAt, asked_at}
use Rattle.demands.proofs.OwnStrings.{up_to, AnsweredBy, next_answer}

-- ---- a question that 8 does not apply to
module _ (o : Opening) (len code a : ℕ) where
  -- it names a context and a symbol of the sitting
  asked_of : not_asked o len code a ≡ false → AskedOf o len code a (decoded len code)
  asked_of e = go (leb o.symbols a) refl (ltb o.depth len) refl (is_code o.symbols len code) refl e
    where
      s : List ℕ
      s = decoded len code

      go : (t : Bool) → leb o.symbols a ≡ t → (u : Bool) → ltb o.depth len ≡ u → (v : Bool) → is_code o.symbols len code ≡ v → (t || (u || not v)) ≡ false → AskedOf o len code a s
      go true f u g v k e = let z : ◌≡◌ {A = ℕ} 0 1 = cc in absurd (omega arith)
      go false f true g v k e = let z : ◌≡◌ {A = ℕ} 0 1 = cc in absurd (omega arith)
      go false f false g false k e = let z : ◌≡◌ {A = ℕ} 0 1 = cc in absurd (omega arith)
      go false f false g true k e =
          let whole = of_true (is_code o.symbols len code) k in
          let short = ltb-false o.depth len g in
          record {
            is_context_holds = context_more o.symbols o.symbols len o.depth s (omega arith) short (left (is_context o.symbols len s) (eqb (code_of s) code) whole);
            length_is = decoded_length len code;
            code_is = eqb→eq (code_of s) code (right (is_context o.symbols len s) (eqb (code_of s) code) whole);
            symbol = leb-false o.symbols a f;
          }

-- no total of a fitting sitting passes the limit of the shares
totals_few : (o : Opening) (p : Progress) → SittingFits o p → (s : List ℕ) (i : Sample) → total_in (sat o.symbols o.depth o.weight p) i s ≤ most_counted
totals_few o p f s i = omega (arith, f.totals i s, f.sizes i)

same_point : {c e : Chart} → ◌≡◌ {A = Answer} (point c) (point e) → c ≡ e
same_point q = cc

-- ---- at any store

there : (σ : List ℕ) (d len code a : ℕ) (c : Chart) → AnsweredAt σ d (charting len code a) (point c) → ChartAt σ d len code a c
unfolding lines_of ask_answer
there σ d len code a c h =
    let o = h.desk.named in
    let p = h.desk.progress in
    let q = asked_of o len code a h.accepted.0 in
    record {
      desk = h.desk;
      context = decoded len code;
      asked = q;
      says = subst (ChartSays (sitting_there h.desk) (decoded len code) a) (same_point h.answer) (chart_says (sat o.symbols o.depth o.weight p) (decoded len code) a q.symbol (totals_few o p h.fits (decoded len code)));
    }

pub charts_at_stores : ChartsAtStores
charts_at_stores σ d len code a c p = there σ d len code a c (asked_at σ d (charting len code a) (point c) p)

-- ---- in a run

own : (gs : List (Course rules)) (d len code a : ℕ) (c : Chart) → AnsweredBy gs d (charting len code a) (point c) → ChartOfItsStrings gs d len code a c
unfolding lines_of ask_answer
own gs d len code a c h =
    let o = h.its.named in
    let w = h.its.strings in
    let p = h.progress in
    let s = decoded len code in
    let q = asked_of o len code a h.accepted.0 in
    let few : (i : Sample) → total_in (sitting_for o w) i s ≤ most_counted = λ i. subst (λ (n : ℕ). n ≤ most_counted) (total_same o w p h.stands i s q.is_context_holds) (totals_few o p h.fits s i) in
    record {
      its = h.its;
      context = decoded len code;
      asked = q;
      says = subst (ChartSays (sitting_for o w) s a) (sym (own_chart o w p h.stands s a q.is_context_holds) ∙ same_point h.answer) (chart_says (sitting_for o w) s a q.symbol few);
    }

pub demand_of_charts : DemandOfCharts
demand_of_charts K σ τ cs os made run before behind said saying d len code a c many called answered-so =
    let far = up_to before behind said saying many (rw (called, answered-so) at run) in
    own _ d len code a c (next_answer K σ far.now far.next before said made far.run d (charting len code a) (point c) far.does)
