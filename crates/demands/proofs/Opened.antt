-- An ask that is answered at a store: the store is sound, the desk is open, and the sitting there judges and answers it. Assumes nothing.
use Prim.Native.Nat.{ℕ}
use native.Mathlib.Omega.{arith}
use mathlib.Core.Path.{◌≡◌, refl, sym}
use mathlib.Core.Bool.{Bool, true, false}
use mathlib.Core.List.{List}
use Rattle.contexts.specs.Sitting.{Progress}
use Rattle.replay.specs.Room.{Desk, closed, opened}
use Rattle.replay.specs.Table.{answered, NoneApplies}
use Rattle.replay.specs.Machine.{asking, at_desk, spare, table_at, asking_table, own_lines, answer_at, verdict}
use Rattle.replay.proofs.Tables.{no_refusal}
use Rattle.replay.proofs.Swap.{heard}
use Rattle.store.specs.Sound.{soundb}
use Rattle.store.specs.Meaning.{meaning, SittingFits}
use Rattle.store.proofs.Fitting.{meaning_fits}
use Rattle.rules.specs.Rules.{Answer, Ask, rules, lines_of, ask_answer}
use Rattle.calls.specs.Promises.{Asks}
use Rattle.demands.specs.AnyStore.{OpenAt}

pub record AnsweredAt (σ : List ℕ) (d : ℕ) (q : Ask) (x : Answer) : Type 0 where
  pub desk : OpenAt σ d
  pub fits : SittingFits desk.named desk.progress
  pub accepted : NoneApplies (lines_of desk.named desk.progress q)
  pub answer : ask_answer desk.named desk.progress q ≡ x

module _ (σ : List ℕ) (d : ℕ) (q : Ask) (x : Answer) where
  pub answered_at : soundb σ ≡ true → verdict rules (meaning σ) (at_desk d (asking q)) ≡ answered x → AnsweredAt σ d q x
  unfolding table_at asking_table own_lines answer_at
  answered_at sound e = go ((meaning σ).at d) refl (heard rules (meaning σ) d (asking q) x e)
    where
      go : (D : Desk Progress) → (meaning σ).at d ≡ D → NoneApplies (table_at rules (spare (meaning σ)) d D (asking q)) × (answer_at rules D (asking q) ≡ x) → AnsweredAt σ d q x
      go closed p h = let z : ◌≡◌ {A = ℕ} 0 1 = cc h.0.1.0 in absurd (omega arith)
      go (opened o s) p h = record {
        desk = record { sound = sound; named = o; progress = s; at_desk_holds = p };
        fits = (meaning_fits σ sound).sittings d o s p;
        accepted = h.0.1.1;
        answer = h.1;
      }

  -- a store that does not pass the test answers nothing
  pub asked_at : Asks σ (at_desk d (asking q)) (answered x) → AnsweredAt σ d q x
  asked_at p = go (soundb σ) refl
    where
      go : (b : Bool) → soundb σ ≡ b → AnsweredAt σ d q x
      go true e = answered_at e (sym (p.answers e))
      go false e = no_refusal refl (p.unsound e)
