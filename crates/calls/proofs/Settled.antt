-- The promises settle the answer and what the numbers stand for. Assumes nothing.
use Prim.Native.Nat.{ℕ}
use mathlib.Core.Path.{◌≡◌, refl, sym, ap, subst, ◌∙◌}
use mathlib.Core.Bool.{Bool, true, false, cond}
use mathlib.Core.List.{List, [], ◌∷◌}
use lib.ListN.{length, drop}
use Rattle.contexts.specs.Sitting.{Progress, sat}
use Rattle.replay.specs.Room.{Desk, closed, opened, Room}
use Rattle.replay.specs.Table.{Line, line_number, applies, Outcome, refused, answered, verdict_of}
use Rattle.replay.specs.Machine.{Call, at_desk, asking, no_such_desk, asking_table, table_at, table_of, answer_at, answer_of, verdict}
use Rattle.store.specs.Layout.{store_size, room}
use Rattle.store.specs.Sound.{soundb}
use Rattle.store.specs.Meaning.{meaning}
use Rattle.rules.specs.Report.{Reported, report}
use Rattle.rules.specs.Rules as sitting
use Rattle.rules.specs.Rules.{Answer, reporting, reported, rules}
use Rattle.calls.specs.Promises.{Moves, Asks, Reports}

-- ---- two results that a promise allows

pub record SameMove (before : List ℕ) (o o' : Outcome Answer) (x y : List ℕ) : Type 0 where
  pub answer : o ≡ o'
  pub meaning_same : meaning x ≡ meaning y
  pub sound_same : soundb x ≡ soundb y
  pub numbers_refused : (n : ℕ) → o ≡ refused n → x ≡ y
  pub past_same : drop (store_size (room before)) x ≡ drop (store_size (room before)) y
  pub length_same : length x ≡ length y

module _ (before : List ℕ) (c : Call rules) (o o' : Outcome Answer) where
  -- THEOREM. Whatever a move's promise allows has one answer and one meaning, and the numbers themselves where it is a refusal
  pub moves_settled : (x y : List ℕ) → Moves before c o x → Moves before c o' y → SameMove before o o' x y
  moves_settled x y p q = go (soundb before) refl
    where
      one : o ≡ o' → (n : ℕ) → o ≡ refused n → x ≡ y
      one e n r = p.refused_stays n r ∙ sym (q.refused_stays n (sym e ∙ r))

      made : o ≡ o' → meaning x ≡ meaning y → soundb x ≡ soundb y → SameMove before o o' x y
      made e m t = record {
        answer = e;
        meaning_same = m;
        sound_same = t;
        numbers_refused = one e;
        past_same = p.past_stays ∙ sym q.past_stays;
        length_same = p.length_stays ∙ sym q.length_stays;
      }

      go : (b : Bool) → soundb before ≡ b → SameMove before o o' x y
      go true e = made (p.answers e ∙ sym (q.answers e)) (p.moves e ∙ sym (q.moves e)) (p.stays_sound e ∙ sym (q.stays_sound e))
      go false e = let r = p.unsound e in let f = r ∙ sym (q.unsound e) in let n = one f 1 r in made f (ap meaning n) (ap soundb n)

  -- THEOREM. Whatever a question's promise allows has one answer
  pub asks_settled : Asks before c o → Asks before c o' → o ≡ o'
  asks_settled p q = go (soundb before) refl
    where
      go : (b : Bool) → soundb before ≡ b → o ≡ o'
      go true e = p.answers e ∙ sym (q.answers e)
      go false e = p.unsound e ∙ sym (q.unsound e)

-- what a report's question can be told: a number, or rows and a score
data Told : Outcome Answer → Type 0 where
  by_number : (n : ℕ) → Told (refused n)
  by_rows : (x : Reported) → Told (answered (reported x))

judged : (ls : List Line) (x : Reported) → Told (verdict_of ls (reported x))
unfolding verdict_of
judged [] x = by_rows x
judged (l ∷ ls) x = go (applies l) (judged ls x)
  where
    go : (b : Bool) → Told (verdict_of ls (reported x)) → Told (cond b (refused (line_number l)) (verdict_of ls (reported x)))
    go true t = by_number (line_number l)
    go false t = t

report_told : (ρ : Room Progress) (d sheet place : ℕ) → Told (verdict rules ρ (at_desk d (asking (reporting sheet place))))
unfolding verdict verdict_of table_of table_at asking_table answer_of answer_at sitting.ask_answer
report_told ρ d sheet place = go (ρ.at d)
  where
    no_sitting : (b : Bool) → Told (cond b (refused 2) (refused 4))
    no_sitting true = by_number 2
    no_sitting false = by_number 4

    go : (D : Desk Progress) → Told (verdict_of (asking_table rules d D (reporting sheet place)) (answer_at rules D (asking (reporting sheet place))))
    go closed = no_sitting (no_such_desk d)
    go (opened o p) = judged (asking_table rules d (opened o p) (reporting sheet place)) (report (sat o.symbols o.depth o.weight p))

asked_told : (store : List ℕ) (d sheet place : ℕ) (o : Outcome Answer) → Asks store (at_desk d (asking (reporting sheet place))) o → Told o
asked_told store d sheet place o p = go (soundb store) refl
  where
    go : (b : Bool) → soundb store ≡ b → Told o
    go true e = subst Told (sym (p.answers e)) (report_told (meaning store) d sheet place)
    go false e = subst Told (sym (p.unsound e)) (by_number 1)

-- THEOREM. Whatever a report's promise allows has one answer, and one sheet
pub reports_settled : (store : List ℕ) (d place : ℕ) (o o' : Outcome Answer) (before x y : List ℕ)
    → Reports store d place o before x → Reports store d place o' before y → (o ≡ o') × (x ≡ y)
reports_settled store d place o o' before x y p q = (same, go o refl (asked_told store d (length before) place o p.asks))
  where
    same : o ≡ o'
    same = asks_settled store (at_desk d (asking (reporting (length before) place))) o o' p.asks q.asks

    go : (u : Outcome Answer) → o ≡ u → Told u → x ≡ y
    go u e (by_number n) = p.refused_stays n e ∙ sym (q.refused_stays n (sym same ∙ e))
    go u e (by_rows z) = p.written z e ∙ sym (q.written z (sym same ∙ e))
