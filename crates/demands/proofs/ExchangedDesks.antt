-- E13 of refusals at desks of any runs: such feeds answer the same, such reports are refused alike. Assumes nothing.
use Prim.Native.Nat.{ℕ}
use native.Mathlib.Omega.{arith}
use mathlib.Core.Path.{◌≡◌, refl, sym, ap, subst, subst₂, fun_ext, ◌∙◌}
use mathlib.Core.Bool.{Bool, true, false}
use mathlib.Core.List.{List}
use lib.Dec.{leb}
use borrow.Author.Tests.{leb-true}
use Rattle.numbers.specs.Limits.{desks}
use Rattle.contexts.specs.Sitting.{Sample, Progress}
use Rattle.replay.specs.Room.{Opening, Desk, closed, opened}
use Rattle.replay.specs.Table.{Line, Outcome, verdict_of}
use Rattle.replay.specs.Machine.{is_opened, asking, at_desk, no_such_desk, own_lines, asking_table, table_at, table_of, answer_at, answer_of, verdict}
use Rattle.replay.proofs.Tables.{refused_exactly}
use Rattle.store.specs.Meaning.{meaning, SittingFits}
use Rattle.store.proofs.Fitting.{meaning_fits}
use Rattle.rules.specs.Rules.{Answer, done, Ask, feed, reporting, rules, lines_of, ask_answer}
use Rattle.rules.specs.Strings.{StandsFor}
use Rattle.demands.specs.Exchange.{sample_by, symbol_by, SittingAt, DoesThere, IsOpen, number_of, FeedsAlike, ReportsAlike}
use Rattle.demands.proofs.Contracts.{Sound, answers}
use Rattle.demands.proofs.OwnStrings.{own_at, run_sound}
use Rattle.demands.proofs.ExchangedRuns.{same_named, same_strings}
use Rattle.demands.proofs.ExchangedHolding.{refused_by}
use Rattle.demands.proofs.ExchangedFeeds.{feeds_by, reports_by}

-- ---- one open desk

-- an open desk is one of the eight
is_a_desk : (σ : List ℕ) (d : ℕ) (o : Opening) (p : Progress) → Sound σ → (meaning σ).at d ≡ opened o p → no_such_desk d ≡ false
is_a_desk σ d o p sound e = go (leb desks d) refl
  where
    go : (t : Bool) → leb desks d ≡ t → t ≡ false
    go false f = refl
    go true f = let z : closed ≡ opened o p = sym ((meaning_fits σ sound).eight_desks d (leb-true desks d f)) ∙ e in let u : false ≡ true = ap is_opened z in sym u

-- what an ask at an open desk answers: its own lines decide
by_lines : (σ : List ℕ) (d : ℕ) (q : Ask) (o : Opening) (p : Progress) → Sound σ → (meaning σ).at d ≡ opened o p
    → verdict rules (meaning σ) (at_desk d (asking q)) ≡ verdict_of (lines_of o p q) (ask_answer o p q)
unfolding verdict verdict_of table_of table_at asking_table own_lines answer_of answer_at
by_lines σ d q o p sound e = rw (e, is_a_desk σ d o p sound e)

record DeskOf {o : Opening} {w : Sample → List ℕ} (s : SittingAt o w) : Type 0 where
  progress : Progress
  stands : StandsFor o w progress
  fits : SittingFits o progress
  outcome : (q : Ask) (x : Outcome Answer) (next : List ℕ) → DoesThere s q x next → x ≡ verdict_of (lines_of o progress q) (ask_answer o progress q)

desk_of_lem : {o : Opening} {w : Sample → List ℕ} (s : SittingAt o w) → IsOpen s → DeskOf s
desk_of_lem {o} {w} s is_open = go ((meaning s.now).at s.desk) refl is_open
  where
    sound : Sound s.now
    sound = run_sound s.room s.store s.now s.before s.said s.made s.run

    go : (D : Desk Progress) → (meaning s.now).at s.desk ≡ D → is_opened D ≡ true → DeskOf s
    go closed e t = let z : ◌≡◌ {A = ℕ} 0 1 = cc in absurd (omega arith)
    go (opened n p) e t =
        let h = own_at s.room s.store s.now s.before s.said s.made s.run s.desk n p e in
        let is : n ≡ o = sym h.begun ∙ same_named h.its s.its ∙ s.opened in
        record {
          progress = p;
          stands = subst₂ (λ (m : Opening) (v : Sample → List ℕ). StandsFor m v p) is (same_strings h.its s.its ∙ s.fed) h.stands;
          fits = subst (λ (m : Opening). SittingFits m p) is ((meaning_fits s.now sound).sittings s.desk n p e);
          outcome = λ q x next does.
              answers s.now next (at_desk s.desk (asking q)) x sound does ∙ by_lines s.now s.desk q n p sound e
              ∙ ap (λ (m : Opening). verdict_of (lines_of m p q) (ask_answer m p q)) is;
        }

-- ---- two

pub feeds_alike : FeedsAlike
unfolding lines_of ask_answer
feeds_alike o p way w v s same one two here there i a l x y next next' does does' =
    let k = desk_of_lem one here in
    let k' = desk_of_lem two there in
    let S' = subst (λ (u : Sample → List ℕ). StandsFor p u k'.progress) (fun_ext s.strings) k'.stands in
    let lines = feeds_by o p way w k.progress k'.progress s.named k.stands S' same i a l in
    k'.outcome (feed (number_of (sample_by way i)) (symbol_by way a)) y next' does'
    ∙ ap (λ (ls : List Line). verdict_of ls done) lines
    ∙ sym (k.outcome (feed (number_of i) a) x next does)

pub reports_alike : ReportsAlike
unfolding lines_of ask_answer
reports_alike o p way w v s one two here there sheet place n x y next next' does does' =
    let k = desk_of_lem one here in
    let k' = desk_of_lem two there in
    let S' = subst (λ (u : Sample → List ℕ). StandsFor p u k'.progress) (fun_ext s.strings) k'.stands in
    let lines = reports_by o p way w k.progress k'.progress s.named k.stands S' k.fits.alphabet_most sheet place in
    let e = k.outcome (reporting sheet place) x next does in
    let e' = k'.outcome (reporting sheet place) y next' does' in
    let t = refused_exactly (lines_of o k.progress (reporting sheet place)) (ask_answer o k.progress (reporting sheet place)) n in
    let t' = refused_exactly (lines_of p k'.progress (reporting sheet place)) (ask_answer p k'.progress (reporting sheet place)) n in
    refused_by (λ h. t.0 (sym e ∙ h), λ h. e ∙ t.1 h) (λ h. t'.0 (sym e' ∙ h), λ h. e' ∙ t'.1 h) lines
