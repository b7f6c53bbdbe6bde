-- Refusals told by an ordered table: a call is refused by the first line that applies, and answered where none does.
-- Assumes nothing.
use Rattle.std.specs.Prelude.{ℕ, ◌≡◌, Bool, true, false, cond, List, [], ◌∷◌, ◌++◌}

-- a line of a call's table: a refusal's number, and whether it applies
infix 68 ◌when◌
pub data Line : Type 0 where
  ◌when◌ : ℕ → Bool → Line

abbrev pub line_number : Line → ℕ
line_number (n when t) = n

abbrev pub applies : Line → Bool
applies (n when t) = t

-- "Every refusal returns its number alone"; an answer has with it what the call wrote
pub data Outcome (Answer : Type 0) : Type 0 where
  refused : ℕ → Outcome Answer
  answered : Answer → Outcome Answer

-- refused by the first line that applies, answered where none does
unfoldable pub verdict_of : {Answer : Type 0} → List Line → Answer → Outcome Answer
verdict_of [] a = answered a
verdict_of (l ∷ ls) a = cond (applies l) (refused (line_number l)) (verdict_of ls a)

-- no line applies
abbrev pub NoneApplies : List Line → Type 0
NoneApplies [] = Unit {0}
NoneApplies (l ∷ ls) = (applies l ≡ false) × NoneApplies ls

-- n is the number of the first line that applies
pub record First (ls : List Line) (n : ℕ) : Type 0 where
  pub before : List Line
  pub behind : List Line
  pub split : ls ≡ before ++ n when true ∷ behind
  pub quiet : NoneApplies before
