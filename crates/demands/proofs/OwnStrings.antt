-- An ask that is answered in a run: by the sitting of the strings that its desk's own latest sitting was fed. Assumes nothing.
use Prim.Native.Nat.{ℕ}
use native.Mathlib.Omega.{arith}
use mathlib.Core.Path.{◌≡◌, refl, sym, subst}
use mathlib.Core.List.{List, [], ◌∷◌, ◌++◌}
use lib.ListN.{length}
use Rattle.contexts.specs.Sitting.{Sample, Progress}
use Rattle.replay.specs.Room.{Making, Opening, opened}
use Rattle.replay.specs.Table.{Outcome, answered, NoneApplies}
use Rattle.replay.specs.Machine.{asking, Call, at_desk}
use Rattle.replay.specs.Alone.{asks}
use Rattle.replay.specs.Serial.{Course, struck, sittings}
use Rattle.replay.proofs.Reached.{alone_begun}
use Rattle.replay.proofs.RealRuns.{runs_sound, real_open}
use Rattle.store.specs.Meaning.{meaning, SittingFits}
use Rattle.rules.specs.Rules.{Answer, Ask, rules, lines_of, ask_answer}
use Rattle.rules.specs.Strings.{StandsFor, strings_of}
use Rattle.rules.proofs.TrueCounts.{stands_alone}
use Rattle.demands.specs.Runs.{Does, MadeNew, Run, stop, then}
use Rattle.demands.specs.Demands.{ItsStrings}
use Rattle.demands.proofs.Alphabet.{over_below}
use Rattle.demands.proofs.Contracts.{Sound, contracts, answers, newly_made, runs}
use Rattle.demands.proofs.Estimate.{counts_by_place}
use Rattle.demands.proofs.Opened.{answered_at}

-- ---- a run that goes on with a call: the run before it, and the call

pub record UpTo (σ : List ℕ) (cs : List (Call rules)) (os : List (Outcome Answer)) (c : Call rules) (o : Outcome Answer) : Type 0 where
  pub now : List ℕ
  pub next : List ℕ
  pub run : Run σ cs os now
  pub does : Does now c o next

pub up_to : {σ τ : List ℕ} {c : Call rules} {o : Outcome Answer} (before behind : List (Call rules)) (said saying : List (Outcome Answer)) → length before ≡ length said
    → Run σ (before ++ (c ∷ behind)) (said ++ (o ∷ saying)) τ → UpTo σ before said c o
up_to [] behind [] saying e (then d r) = record { now = _; next = _; run = stop; does = d }
up_to [] behind (p ∷ said) saying e r = absurd (omega arith)
up_to (b ∷ before) behind [] saying e r = absurd (omega arith)
up_to (b ∷ before) behind (p ∷ said) saying e (then d r) =
    let h = up_to before behind said saying (omega arith) r in
    record { now = h.now; next = h.next; run = then d h.run; does = h.does }

-- ---- an open desk

-- desk d, opened with o, has p so far: what the strings make it that its own latest sitting was fed
pub record OwnAt (gs : List (Course rules)) (d : ℕ) (o : Opening) (p : Progress) : Type 0 where
  pub its : ItsStrings gs d
  pub begun : its.named ≡ o
  pub stands : StandsFor o its.strings p

-- after any run on a newly made store every open desk is so
pub own_at : (K : Making) (σ τ : List ℕ) (cs : List (Call rules)) (os : List (Outcome Answer)) → MadeNew K σ → Run σ cs os τ → (d : ℕ) (o : Opening) (p : Progress)
    → (meaning τ).at d ≡ opened o p → OwnAt (sittings rules [] (struck rules cs os)) d o p
own_at K σ τ cs os made run d o p e =
    let alone = real_open rules (List ℕ) contracts K σ τ cs os (newly_made K σ made) (runs run) d o p e in
    let w : Sample → List ℕ = strings_of (asks rules alone.sitting.told) in
    let stands : StandsFor o w p = stands_alone alone.alone in
    let start = alone_begun rules alone.alone in
    record {
      its = record {
        course = alone.sitting;
        there = alone.there;
        named = o;
        later = start.0;
        begun = start.1;
        strings = w;
        fed = refl;
        below = λ i. over_below o.symbols (w i) (stands.over i);
        true_counts = counts_by_place o w;
      };
      begun = refl;
      stands = stands;
    }

-- .. and the store passes the test
pub run_sound : (K : Making) (σ τ : List ℕ) (cs : List (Call rules)) (os : List (Outcome Answer)) → MadeNew K σ → Run σ cs os τ → Sound τ
run_sound K σ τ cs os made run = runs_sound rules (List ℕ) contracts (newly_made K σ made).sound (runs run)

-- ---- the ask that comes next

pub record AnsweredBy (gs : List (Course rules)) (d : ℕ) (q : Ask) (x : Answer) : Type 0 where
  pub its : ItsStrings gs d
  pub progress : Progress
  pub stands : StandsFor its.named its.strings progress
  pub fits : SittingFits its.named progress
  pub accepted : NoneApplies (lines_of its.named progress q)
  pub answer : ask_answer its.named progress q ≡ x

-- after any run on a newly made store an ask is answered by its sitting's own strings
pub next_answer : (K : Making) (σ τ υ : List ℕ) (cs : List (Call rules)) (os : List (Outcome Answer)) → MadeNew K σ → Run σ cs os τ → (d : ℕ) (q : Ask) (x : Answer)
    → Does τ (at_desk d (asking q)) (answered x) υ → AnsweredBy (sittings rules [] (struck rules cs os)) d q x
next_answer K σ τ υ cs os made run d q x does =
    let sound : Sound τ = run_sound K σ τ cs os made run in
    let h = answered_at τ d q x sound (sym (answers τ υ (at_desk d (asking q)) (answered x) sound does)) in
    let p = h.desk.progress in
    let s = own_at K σ τ cs os made run d h.desk.named p h.desk.at_desk_holds in
    let e = sym s.begun in
    record {
      its = s.its;
      progress = p;
      stands = subst (λ (o : Opening). StandsFor o s.its.strings p) e s.stands;
      fits = subst (λ (o : Opening). SittingFits o p) e h.fits;
      accepted = subst (λ (o : Opening). NoneApplies (lines_of o p q)) e h.accepted;
      answer = subst (λ (o : Opening). ask_answer o p q ≡ x) e h.answer;
    }
