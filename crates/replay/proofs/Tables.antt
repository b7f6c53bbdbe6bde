-- What a table decides: refused n exactly where n is the number of the first line that applies, and answered exactly where none
-- does. Assumes nothing.
use Prim.Native.Nat.{ℕ}
use native.Mathlib.Omega.{arith}
use mathlib.Core.Path.{◌≡◌, refl, ap}
use mathlib.Core.Logic.{◌↔◌}
use mathlib.Core.Bool.{Bool, true, false, cond}
use mathlib.Core.List.{List, [], ◌∷◌, ◌++◌}
use Rattle.replay.specs.Table.{Line, ◌when◌, line_number, applies, Outcome, refused, answered, verdict_of, NoneApplies, First}

module _ {A : Type 0} where
  -- an answer is never a refusal
  pub no_refusal : {B : Type 0} {o : Outcome A} {a : A} {n : ℕ} → o ≡ answered a → o ≡ refused n → B
  no_refusal p q = let z : ◌≡◌ {A = ℕ} 0 1 = cc in absurd (omega arith)

  -- two refusals that are one have one number, two answers are one
  pub number_same : {n m : ℕ} → ◌≡◌ {A = Outcome A} (refused n) (refused m) → n ≡ m
  number_same e = cc

  pub answer_same : {a b : A} → ◌≡◌ {A = Outcome A} (answered a) (answered b) → a ≡ b
  answer_same e = cc

  pub none_answers : (ls : List Line) (x : A) → NoneApplies ls → verdict_of ls x ≡ answered x
  unfolding verdict_of
  none_answers [] x h = refl
  none_answers (l ∷ ls) x h = rw h.0 (none_answers ls x h.1)

  pub answers_none : (ls : List Line) (x a : A) → verdict_of ls x ≡ answered a → NoneApplies ls × (x ≡ a)
  unfolding verdict_of
  answers_none [] x a e = (tt, cc)
  answers_none (l ∷ ls) x a e = go (applies l) refl e (answers_none ls x a)
    where
      go : (t : Bool) → applies l ≡ t → cond t (refused (line_number l)) (verdict_of ls x) ≡ answered a
          → (verdict_of ls x ≡ answered a → NoneApplies ls × (x ≡ a)) → NoneApplies (l ∷ ls) × (x ≡ a)
      go true p e rest = no_refusal e refl
      go false p e rest = let h = rest e in ((p, h.0), h.1)

  -- answered exactly when no line applies
  pub answered_exactly : (ls : List Line) (x : A) → (verdict_of ls x ≡ answered x) ↔ NoneApplies ls
  answered_exactly ls x = (λ e. (answers_none ls x x e).0, none_answers ls x)

  first_refuses : (before : List Line) (n : ℕ) (behind : List Line) (x : A) → NoneApplies before → verdict_of (before ++ n when true ∷ behind) x ≡ refused n
  unfolding verdict_of
  first_refuses [] n behind x h = refl
  first_refuses (l ∷ ls) n behind x h = rw h.0 (first_refuses ls n behind x h.1)

  refuses_first : (ls : List Line) (x : A) (n : ℕ) → verdict_of ls x ≡ refused n → First ls n
  unfolding verdict_of
  refuses_first [] x n e = no_refusal refl e
  refuses_first (m when true ∷ ls) x n e =
      let same : m ≡ n = cc in
      record { before = []; behind = ls; split = ap (λ k. k when true ∷ ls) same; quiet = tt }
  refuses_first (m when false ∷ ls) x n e =
      let h = refuses_first ls x n e in
      record { before = m when false ∷ h.before; behind = h.behind; split = ap (m when false ∷◌) h.split; quiet = (refl, h.quiet) }

  -- refused n exactly when n is the number of the first line that applies
  pub refused_exactly : (ls : List Line) (x : A) (n : ℕ) → (verdict_of ls x ≡ refused n) ↔ First ls n
  refused_exactly ls x n = (refuses_first ls x n, λ h. rw h.split (first_refuses h.before n h.behind x h.quiet))
