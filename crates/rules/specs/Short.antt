-- What "too short" comes to (document 02, E8): such a sample "has no counted place", and no other sample with symbols is without one. Assumes nothing.
use Rattle.std.specs.Prelude.{ℕ, ◌<◌, ◌≡◌, true, ◌↔◌, List, length}
use Rattle.contexts.specs.Sitting.{Sample, Progress}
use Rattle.replay.specs.Room.{Opening, opened, Room}
use Rattle.replay.specs.Table.{refused}
use Rattle.replay.specs.Machine.{asking, at_desk, verdict}
use Rattle.rules.specs.Report.{too_short}
use Rattle.rules.specs.Rules.{reporting, rules}
use Rattle.rules.specs.Strings.{sitting_for}

-- no symbol of a sample is counted, in any context
abbrev pub NoneCounted : Opening → (Sample → List ℕ) → Sample → Type 0
NoneCounted o w i = (s : List ℕ) (a : ℕ) → (sitting_for o w).count i s a ≡ 0

-- w are the samples of a sitting opened with o: one is too short exactly where it has symbols and none of them is counted
abbrev pub ShortExactly : Type 0
ShortExactly = (o : Opening) (w : Sample → List ℕ) (i : Sample) → (too_short o (length (w i)) ≡ true) ↔ ((0 < length (w i)) × NoneCounted o w i)

-- with D 0 no report is refused with 24
abbrev pub NeverAtDepth0 : Type 0
NeverAtDepth0 =
    (ρ : Room Progress) (d sheet place : ℕ) (o : Opening) (p : Progress) → ρ.at d ≡ opened o p → o.depth ≡ 0
    → verdict rules ρ (at_desk d (asking (reporting sheet place))) ≡ refused 24 → ⊥
