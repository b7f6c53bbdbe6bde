-- E13 of accepted reports, whatever runs they come from. Assumes nothing.
use Prim.Native.Nat.{ℕ, ◌≤◌, ◌<◌}
use native.Mathlib.Omega.{arith}
use mathlib.Core.Path.{◌≡◌, refl, sym, ap, ap₂, subst, subst₂, fun_ext, ◌∙◌}
use mathlib.Core.Bool.{true}
use mathlib.Core.Option.{some-injective}
use mathlib.Core.List.{List, [], ◌∷◌}
use Rattle.numbers.specs.Limits.{most_symbols}
use Rattle.contexts.specs.Sitting.{Sample, Sitting, sitting_of, Progress}
use Rattle.contexts.proofs.Totals.{Over}
use Rattle.replay.specs.Room.{Opening, naming, Desk, closed, opened}
use Rattle.replay.specs.Machine.{Act, opening, asking, closing, is_opened}
use Rattle.replay.specs.Serial.{Course, Told, struck, sittings}
use Rattle.replay.specs.Alone.{asks}
use Rattle.store.specs.Meaning.{meaning}
use Rattle.rules.specs.Feed.{counted_from}
use Rattle.rules.specs.Report.{Reported}
use Rattle.rules.specs.Rules.{reporting, reported, rules}
use Rattle.rules.specs.Strings.{strings_of, sitting_for}
use Rattle.demands.specs.Demands.{JointEstimate, ItsStrings}
use Rattle.demands.specs.Exchange.{strings_by, ReportOn, EachReport, EachOpen, NamedAlike, OfReports}
use Rattle.demands.proofs.Demand2.{own}
use Rattle.demands.proofs.OwnStrings.{up_to, own_at, next_answer}
use Rattle.demands.proofs.Exchange.{estimates_by}

-- ---- what demand 2 tells of a sitting is one thing

-- the opening that a course began with
opened_by : Act rules → Opening
opened_by (opening o) = o
opened_by (asking q) = naming 0 0 0 0
opened_by closing = naming 0 0 0 0

begun_with : List (Told rules) → Opening
begun_with [] = naming 0 0 0 0
begun_with (t ∷ ts) = opened_by t.act

module _ {gs : List (Course rules)} {d : ℕ} (a b : ItsStrings gs d) where
  same_course : a.course ≡ b.course
  same_course = some-injective a.course b.course (sym a.there ∙ b.there)

  pub same_named : a.named ≡ b.named
  unfolding opened_by begun_with
  same_named = sym (ap begun_with a.begun) ∙ ap (λ (g : Course rules). begun_with g.told) same_course ∙ ap begun_with b.begun

  pub same_strings : a.strings ≡ b.strings
  same_strings = a.fed ∙ ap (λ (g : Course rules). strings_of (asks rules g.told)) same_course ∙ sym b.fed

-- ---- an accepted report

record EstimateOf (o : Opening) (w : Sample → List ℕ) (r : Reported) : Type 0 where
  estimate : JointEstimate (sitting_for o w) r
  some_symbols : 0 < o.symbols
  few_symbols : o.symbols ≤ most_symbols
  over : (i : Sample) → Over o.symbols (w i)

estimate_on : {o : Opening} {w : Sample → List ℕ} {r : Reported} → ReportOn o w r → EstimateOf o w r
estimate_on {o} {w} {r} a =
    let s = a.sitting in
    let h = next_answer s.room s.store s.now a.next s.before s.said s.made s.run s.desk (reporting a.sheet a.place) (reported r) a.accepted in
    let few = h.fits.alphabet_fewest in
    subst₂ (λ (p : Opening) (v : Sample → List ℕ). EstimateOf p v r) (same_named h.its s.its ∙ s.opened) (same_strings h.its s.its ∙ s.fed)
    (record { estimate = own _ s.desk a.sheet a.place r h; some_symbols = omega arith; few_symbols = h.fits.alphabet_most; over = h.stands.over })

pub each_report : EachReport
each_report K σ τ cs os made run before behind said saying d sheet place r many called answered-so its =
    let far = up_to before behind said saying many (rw (called, answered-so) at run) in
    record {
      sitting = record { room = K; store = σ; made = made; before = before; said = said; now = far.now; run = far.run; desk = d; its = its; opened = refl; fed = refl };
      sheet = sheet;
      place = place;
      next = far.next;
      accepted = far.does;
    }

pub each_open : EachOpen
each_open K σ τ cs os made run d is = go ((meaning τ).at d) refl is
  where
    go : (D : Desk Progress) → (meaning τ).at d ≡ D → is_opened D ≡ true → ItsStrings (sittings rules [] (struck rules cs os)) d
    go closed e t = let z : ◌≡◌ {A = ℕ} 0 1 = cc in absurd (omega arith)
    go (opened o p) e t = (own_at K σ τ cs os made run d o p e).its

-- ---- two

-- openings that name the same make the same sitting of the same strings
pub same_sitting : (o p : Opening) (v w : Sample → List ℕ) → NamedAlike o p → ((i : Sample) → v i ≡ w i) → sitting_for p v ≡ sitting_for o w
same_sitting o p v w n s =
    ap₂ (λ (A D : ℕ). sitting_of A D p.weight D v) n.symbols n.depth
    ∙ ap₂ (λ (e : ℕ) (u : Sample → List ℕ). sitting_of o.symbols o.depth e o.depth u) n.weight (fun_ext s)

pub of_reports : OfReports
of_reports o p way w v q r s a b =
    let x = estimate_on a in
    let y = estimate_on b in
    estimates_by o.symbols o.depth o.weight (counted_from o) way w q r x.some_symbols x.few_symbols x.over x.estimate
    (subst (λ (z : Sitting). JointEstimate z r) (same_sitting o p v (strings_by way w) s.named s.strings) y.estimate)
