-- Demand 1: every call is refused exactly by its table, and a refused call changes nothing. Assumes nothing.
use Prim.Native.Nat.{ℕ}
use mathlib.Core.Path.{◌≡◌, refl, sym, ap, ◌∙◌}
use mathlib.Core.Bool.{Bool, true, false, cond, not}
use mathlib.Core.List.{List, ◌∷◌}
use lib.ListN.{length}
use Rattle.replay.specs.Table.{Outcome, refused, answered, verdict_of}
use Rattle.replay.specs.Machine.{opening, asking, closing, Call, at_desk, room_question, table_of, answer_of, verdict}
use Rattle.replay.proofs.Tables.{no_refusal, none_answers, answers_none, refused_exactly, answered_exactly}
use Rattle.writing.specs.Writing.{file_of, writing_lines, WritesFile}
use Rattle.salvage.specs.Salvage.{Saved, salvage_lines, Salvages}
use Rattle.salvage.proofs.Refusing.{by_lines, as_the_reader}
use Rattle.sitting_file.specs.Format.{header_of}
use Rattle.store.specs.Making.{room_outside, store_short, made_of, Makes}
use Rattle.std.specs.Prelude.{Result, Ok, Err}
use Rattle.store.specs.declared.Refusal as maker
use Rattle.store.specs.declared.Refusal.TheVariants as making
use Rattle.store.specs.Sound.{soundb}
use Rattle.store.specs.Meaning.{meaning}
use Rattle.rules.specs.Rules.{Answer, done, feed, reporting, charting, rules}
use Rattle.rules.proofs.Numbers.{in_order}
use Rattle.demands.specs.Runs.{Does}
use Rattle.demands.specs.Demands.{table_on, Demand1, Demand1Sheet, making_table, making_of, Demand1Making, Demand1Writing, Demand1Salvage}
use Rattle.demands.proofs.Contracts.{answers}

-- refused 1 where the numbers do not pass the test
unsound : (σ τ : List ℕ) (c : Call rules) (o : Outcome Answer) → soundb σ ≡ false → Does σ c o τ → o ≡ refused 1
unsound σ τ (at_desk d (opening p)) o f m = m.unsound f
unsound σ τ (at_desk d (asking (feed i a))) o f m = m.unsound f
unsound σ τ (at_desk d (asking (reporting sheet place))) o f m = m.reports.asks.unsound f
unsound σ τ (at_desk d (asking (charting len code a))) o f m = m.asks.unsound f
unsound σ τ (at_desk d closing) o f m = m.unsound f
unsound σ τ room_question o f m = m.asks.unsound f

stays : (σ τ : List ℕ) (c : Call rules) (o : Outcome Answer) (n : ℕ) → o ≡ refused n → Does σ c o τ → τ ≡ σ
stays σ τ (at_desk d (opening p)) o n e m = m.refused_stays n e
stays σ τ (at_desk d (asking (feed i a))) o n e m = m.refused_stays n e
stays σ τ (at_desk d (asking (reporting sheet place))) o n e m = m.only_read
stays σ τ (at_desk d (asking (charting len code a))) o n e m = m.only_read
stays σ τ (at_desk d closing) o n e m = m.refused_stays n e
stays σ τ room_question o n e m = m.only_read

-- the answer is what the whole table says
by_table : (σ τ : List ℕ) (c : Call rules) (o : Outcome Answer) → Does σ c o τ → o ≡ verdict_of (table_on σ c) (answer_of rules (meaning σ) c)
unfolding verdict_of verdict
by_table σ τ c o m = go (soundb σ) refl
  where
    go : (b : Bool) → soundb σ ≡ b → o ≡ cond (not (soundb σ)) (refused 1) (verdict_of (table_of rules (meaning σ) c) (answer_of rules (meaning σ) c))
    go true e = rw e (answers σ τ c o e m)
    go false e = rw e (unsound σ τ c o e m)

pub demand_1 : (σ τ : List ℕ) (c : Call rules) (o : Outcome Answer) → Does σ c o τ → Demand1 σ c o τ
demand_1 σ τ c o m =
    let e = by_table σ τ c o m in
    record {
      refused_exactly = λ n. rw e (refused_exactly (table_on σ c) (answer_of rules (meaning σ) c) n);
      answered_exactly = rw e (answered_exactly (table_on σ c) (answer_of rules (meaning σ) c));
      in_order = ap (1 ∷◌) (in_order (meaning σ) c);
      refused_stays = λ n r. stays σ τ c o n r m;
    }

pub demand_1_sheet : Demand1Sheet
demand_1_sheet σ τ d sheet place n o lent e = lent.reports.refused_stays n e

-- a making's answer is what its table says
making_by_table : (K n : ℕ) → making_of (made_of K n) ≡ verdict_of (making_table K n) done
unfolding verdict_of
making_by_table K n = go (room_outside K) (store_short K n)
  where
    go : (t u : Bool) → making_of (cond t (Err making.RoomOutside) (cond u (Err making.StoreShort) (Ok tt))) ≡ cond t (refused 17) (cond u (refused 18) (answered done))
    go true u = refl
    go false true = refl
    go false false = refl

pub demand_1_making : (K : ℕ) (σ τ : List ℕ) (m : Result (Unit {0}) maker.Refusal) → Makes K σ m τ → Demand1Making K σ m τ
demand_1_making K σ τ m makes =
    let e : making_of m ≡ verdict_of (making_table K (length σ)) done = ap making_of makes.answered ∙ making_by_table K (length σ) in
    record {
      refused_exactly = λ n. rw e (refused_exactly (making_table K (length σ)) done n);
      made_exactly = rw e (answered_exactly (making_table K (length σ)) done);
      in_order = refl;
      refused_stays = λ n r. makes.refused_kept (λ f. no_refusal (ap making_of f) r);
    }

pub demand_1_writing : (A D : ℕ) (xs ys before after : List ℕ) (o : Outcome ℕ) → WritesFile A D xs ys before o after → Demand1Writing A D xs ys before o after
demand_1_writing A D xs ys before after o w =
    let lines = writing_lines A D xs ys (length before) in
    record {
      refused_exactly = λ n. rw w.answers (refused_exactly lines (length (file_of A D xs ys)) n);
      written_exactly = rw w.answers (answered_exactly lines (length (file_of A D xs ys)));
      in_order = refl;
      refused_stays = w.refused_stays;
    }

pub demand_1_salvage : (damaged before after : List ℕ) (o : Outcome Saved) → Salvages damaged before o after → Demand1Salvage damaged before o after
demand_1_salvage damaged before after o w =
    let lines = salvage_lines (header_of damaged) damaged (length before) in
    let t = by_lines (header_of damaged) damaged (length before) in
    let e : o ≡ verdict_of lines t.0 = w.answers ∙ t.1 in
    record {
      refused_exactly = λ n. rw e (refused_exactly lines t.0 n);
      saved_exactly = (λ a. (answers_none lines t.0 a.0 (sym e ∙ a.1)).0, λ h. (t.0, e ∙ none_answers lines t.0 h));
      in_order = λ shape at q. rw q refl;
      as_the_reader = as_the_reader damaged before after o w;
      refused_stays = w.refused_stays;
    }
