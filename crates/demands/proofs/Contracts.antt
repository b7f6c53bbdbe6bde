-- The functions' promises, together, are those of the room's machine. Assumes nothing.
use Prim.Native.Nat.{ℕ}
use mathlib.Core.Path.{◌≡◌, refl, sym, ap, fun_ext, ◌∙◌}
use mathlib.Core.Bool.{Bool, true, false, cond}
use mathlib.Core.List.{List}
use lib.Dec.{eqb}
use borrow.Author.Tests.{eqb-true}
use Rattle.contexts.specs.Sitting.{Progress}
use Rattle.replay.specs.Room.{Making, Opening, Desk, closed, opened, Room}
use Rattle.replay.specs.Table.{Outcome, refused, answered}
use Rattle.replay.specs.Machine.{opening, asking, closing, Call, at_desk, room_question, verdict, move, moved, put, shift, settle}
use Rattle.replay.specs.Real.{Contracts, Made, RunsReal, stop, then}
use Rattle.replay.proofs.Refusals.{question_stays}
use Rattle.store.specs.Sound.{soundb}
use Rattle.store.specs.Meaning.{meaning}
use Rattle.rules.specs.Rules.{Answer, Ask, feed, reporting, charting, rules, next_of}
use Rattle.demands.specs.Runs.{Does, MadeNew, Run}
use Rattle.demands.specs.Runs as trace

-- ---- a question changes nothing

-- a desk put back where it stood
put_same : (at : ℕ → Desk Progress) (d : ℕ) (D : Desk Progress) → at d ≡ D → put at d D ≡ at
unfolding put
put_same at d D e = fun_ext (λ x. go x (eqb x d) refl)
  where
    go : (x : ℕ) (b : Bool) → eqb x d ≡ b → cond b D (at x) ≡ at x
    go x true f = sym (ap at (eqb-true x d f) ∙ e)
    go x false f = refl

made : Making → (ℕ → Desk Progress) → Room Progress
made K at = record { made = K; at = at }

ask_stays : (ρ : Room Progress) (d : ℕ) (q : Ask) → ((o : Opening) (p : Progress) → next_of o p q ≡ p) → move rules ρ (at_desk d (asking q)) ≡ ρ
unfolding move settle shift moved made
ask_stays ρ d q same = settled (verdict rules ρ (at_desk d (asking q))) (ap (made ρ.made) (put_same ρ.at d _ (stays (ρ.at d))))
  where
    stays : (D : Desk Progress) → D ≡ moved rules D (asking q)
    stays closed = refl
    stays (opened o p) = ap (opened o) (sym (same o p))

    settled : (o : Outcome Answer) → shift rules ρ (at_desk d (asking q)) ≡ ρ → settle o ρ (shift rules ρ (at_desk d (asking q))) ≡ ρ
    settled (refused n) e = refl
    settled (answered a) e = e

report_stays : (ρ : Room Progress) (d sheet place : ℕ) → move rules ρ (at_desk d (asking (reporting sheet place))) ≡ ρ
unfolding next_of
report_stays ρ d sheet place = ask_stays ρ d (reporting sheet place) (λ o p. refl)

chart_stays : (ρ : Room Progress) (d len code a : ℕ) → move rules ρ (at_desk d (asking (charting len code a))) ≡ ρ
unfolding next_of
chart_stays ρ d len code a = ask_stays ρ d (charting len code a) (λ o p. refl)

-- ---- the contracts

abbrev pub Sound : List ℕ → Type 0
Sound σ = soundb σ ≡ true

stays_sound : (σ τ : List ℕ) → τ ≡ σ → Sound σ → Sound τ
stays_sound σ τ e s = ap soundb e ∙ s

pub stays : (σ τ : List ℕ) (c : Call rules) (o : Outcome Answer) → Sound σ → Does σ c o τ → Sound τ
stays σ τ (at_desk d (opening p)) o s m = m.stays_sound s
stays σ τ (at_desk d (asking (feed i a))) o s m = m.stays_sound s
stays σ τ (at_desk d (asking (reporting sheet place))) o s m = stays_sound σ τ m.only_read s
stays σ τ (at_desk d (asking (charting len code a))) o s m = stays_sound σ τ m.only_read s
stays σ τ (at_desk d closing) o s m = m.stays_sound s
stays σ τ room_question o s m = stays_sound σ τ m.only_read s

pub answers : (σ τ : List ℕ) (c : Call rules) (o : Outcome Answer) → Sound σ → Does σ c o τ → o ≡ verdict rules (meaning σ) c
answers σ τ (at_desk d (opening p)) o s m = m.answers s
answers σ τ (at_desk d (asking (feed i a))) o s m = m.answers s
answers σ τ (at_desk d (asking (reporting sheet place))) o s m =
    m.reports.asks.answers s ∙ ap (λ (n : ℕ). verdict rules (meaning σ) (at_desk d (asking (reporting n place)))) m.named
answers σ τ (at_desk d (asking (charting len code a))) o s m = m.asks.answers s
answers σ τ (at_desk d closing) o s m = m.answers s
answers σ τ room_question o s m = m.asks.answers s

pub leaves : (σ τ : List ℕ) (c : Call rules) (o : Outcome Answer) → Sound σ → Does σ c o τ → meaning τ ≡ move rules (meaning σ) c
leaves σ τ (at_desk d (opening p)) o s m = m.moves s
leaves σ τ (at_desk d (asking (feed i a))) o s m = m.moves s
leaves σ τ (at_desk d (asking (reporting sheet place))) o s m = ap meaning m.only_read ∙ sym (report_stays (meaning σ) d sheet place)
leaves σ τ (at_desk d (asking (charting len code a))) o s m = ap meaning m.only_read ∙ sym (chart_stays (meaning σ) d len code a)
leaves σ τ (at_desk d closing) o s m = m.moves s
leaves σ τ room_question o s m = ap meaning m.only_read ∙ sym (question_stays rules (meaning σ))

abbrev pub contracts : Contracts rules (List ℕ)
contracts = record { Sound = Sound; meaning = meaning; Does = Does; stays = stays; answers = answers; leaves = leaves }

-- a store newly made
pub newly_made : (K : Making) (σ : List ℕ) → MadeNew K σ → Made rules (List ℕ) contracts K σ
newly_made K σ m = record { sound = m.makes.sound_after refl; empty = m.makes.means refl }

-- a run of the functions is a run of the machine's contracts
pub runs : {σ τ : List ℕ} {cs : List (Call rules)} {os : List (Outcome Answer)} → Run σ cs os τ → RunsReal rules (List ℕ) contracts σ cs os τ
runs trace.stop = stop
runs (trace.then d r) = then d (runs r)
