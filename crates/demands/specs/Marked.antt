-- "The eleven marked examples (six values, J1 to J5) are proved together by a single statement over a list." Request E2 adds the value of 4,096, and E3
-- the empty context's counts in J1; by E8 J5 is refused; by E5 each is of weight 4, with four times its score. The J examples are told of the room's machine: a desk of a new room is opened, the first sample is fed, then the
-- second, and a report is asked for. Beside them stand two with more than two symbols, since no J example tests the factor A - 1, and two
-- at the limits of the weight. Assumes nothing.
use Rattle.std.specs.Prelude.{ℕ, ◌≡◌, List, [], ◌∷◌, ◌++◌, map, take, replicate, ℤ, pos, neg_ℤ}
use Rattle.numbers.specs.Limits.{most_symbols, most_weight, plain_weight}
use Rattle.logarithm.specs.Logarithm.{L}
use Rattle.rows.specs.Rows.{numbers_of}
use Rattle.contexts.specs.Sitting.{Sample, first, second, eight, Progress}
use Rattle.replay.specs.Room.{Desk, closed, opened, new}
use Rattle.replay.specs.Table.{Outcome, refused, answered}
use Rattle.replay.specs.Machine.{opening, asking, Call, at_desk}
use Rattle.replay.specs.Serial.{outcomes, after}
use Rattle.rules.specs.Rules.{Answer, done, contexts_left, reported, point, feed, reporting, rules}

-- ---- the calls of a sitting

-- symbols fed to a sample, oldest first
abbrev pub feeds : ℕ → List ℕ → List (Call rules)
feeds i w = map (λ a. at_desk 0 (asking (feed i a))) w

-- desk 0 opened with A, D, a weight and r, the two samples fed, and a report on a sheet of 44 numbers from row 0 on
abbrev pub calls_of : ℕ → ℕ → ℕ → ℕ → List ℕ → List ℕ → List (Call rules)
calls_of A D weight r w v = at_desk 0 (opening (record { symbols = A; depth = D; weight = weight; reserve = r })) ∷ (feeds 0 w ++ (feeds 1 v ++ (at_desk 0 (asking (reporting 44 0)) ∷ [])))

-- ---- what is told

-- a call was done, or refused by its number; or its rows, each as its eleven numbers, and the score
pub data Said : Type 0 where
  did : Said
  refused_with : ℕ → Said
  rows : List (List ℕ) → ℤ → Said
  other : Said

abbrev pub say : Outcome Answer → Said
say (refused n) = refused_with n
say (answered done) = did
say (answered (reported x)) = rows (map numbers_of x.rows) x.score
say (answered (contexts_left n)) = other
say (answered (point c)) = other

-- a row's eleven numbers: "0 for symbols from A up"
abbrev pub row : ℕ → ℕ → ℕ → List ℕ → List ℕ
row kind len code counts = kind ∷ len ∷ code ∷ take most_symbols (counts ++ replicate most_symbols 0)

-- ---- examples

-- desk 0 of a new room after these calls
abbrev pub desk_after : ℕ → ℕ → ℕ → ℕ → List ℕ → List ℕ → Desk Progress
desk_after A D weight r w v = (after rules (new r) (calls_of A D weight r w v)).at 0

-- what an open desk's sitting has counted of a context in a sample, symbol by symbol
abbrev pub counts_at : Desk Progress → Sample → List ℕ → List ℕ
counts_at closed i s = []
counts_at (opened o p) i s = take o.symbols (eight (p.count i s))

-- L(n); or the calls of a sitting with A, D, a weight, r and two samples, on a new room of r contexts; or the counts of a context in each sample after these
pub data Question : Type 0 where
  logarithm : ℕ → Question
  sitting : ℕ → ℕ → ℕ → ℕ → List ℕ → List ℕ → Question
  counting : List ℕ → ℕ → ℕ → ℕ → ℕ → List ℕ → List ℕ → Question

-- a value; or: everything is done, and the report has these rows and this score; or: what each call is told; or: the first's counts and the second's
pub data Given : Type 0 where
  value : ℕ → Given
  reports : List (List ℕ) → ℤ → Given
  each : List Said → Given
  in_each : List ℕ → List ℕ → Given

infix 68 ◌gives◌
pub data Example : Type 0 where
  ◌gives◌ : Question → Given → Example

pub data Worked : Type 0 where
  is_value : ℕ → Worked
  are_said : List Said → Worked
  are_counts : List ℕ → List ℕ → Worked

-- what the model answers
abbrev pub answered_to : Question → Worked
answered_to (logarithm n) = is_value (L n)
answered_to (sitting A D weight r w v) = are_said (map say (outcomes rules (new r) (calls_of A D weight r w v)))
answered_to (counting s A D weight r w v) = are_counts (counts_at (desk_after A D weight r w v) first s) (counts_at (desk_after A D weight r w v) second s)

-- what the example says
abbrev pub expected : Question → Given → Worked
expected q (value k) = is_value k
expected (sitting A D weight r w v) (reports ls n) = are_said (did ∷ (map (λ a. did) w ++ (map (λ a. did) v ++ (rows ls n ∷ []))))
expected (logarithm n) (reports ls s) = are_said []
expected (counting s A D weight r w v) (reports ls n) = are_said []
expected q (each ts) = are_said ts
expected q (in_each x y) = are_counts x y

abbrev pub asked : Example → Worked
asked (q gives a) = answered_to q

abbrev pub given : Example → Worked
given (q gives a) = expected q a

-- every example's answer is the model's
abbrev pub AllHold : List Example → Type 0
AllHold es = map asked es ≡ map given es

-- the six values with that of 4,096 (request E2), J1 to J4 as E3 works them, and J5, which is refused with 24 (E8); J1 "needs r 3; with r 2 the third feed of
-- the first sample gets 10", and "the empty context's counts become (1,2) in each sample"
unfoldable pub marked : List Example
marked =
    logarithm 1 gives value 0
    ∷ logarithm 3 gives value 1623
    ∷ logarithm 5 gives value 2377
    ∷ logarithm 9 gives value 3246
    ∷ logarithm 1023 gives value 10238
    ∷ logarithm 1024 gives value 10240
    ∷ logarithm 4096 gives value 12288
    ∷ sitting 2 1 plain_weight 3 (0 ∷ 1 ∷ 0 ∷ 1 ∷ []) (0 ∷ 1 ∷ 0 ∷ 1 ∷ []) gives reports (row 0 1 0 (0 ∷ 4 ∷ []) ∷ row 0 1 1 (2 ∷ 0 ∷ []) ∷ []) (neg_ℤ (pos 24576))
    ∷ sitting 2 1 plain_weight 2 (0 ∷ 1 ∷ 0 ∷ []) [] gives each (did ∷ did ∷ did ∷ refused_with 10 ∷ refused_with 11 ∷ [])
    ∷ counting [] 2 1 plain_weight 3 (0 ∷ 1 ∷ 0 ∷ 1 ∷ []) (0 ∷ 1 ∷ 0 ∷ 1 ∷ []) gives in_each (1 ∷ 2 ∷ []) (1 ∷ 2 ∷ [])
    ∷ sitting 2 1 plain_weight 3 (0 ∷ 1 ∷ 0 ∷ 1 ∷ []) (0 ∷ 0 ∷ 0 ∷ 0 ∷ []) gives reports (row 2 0 0 (3 ∷ 0 ∷ []) ∷ row 1 1 0 (0 ∷ 2 ∷ []) ∷ row 1 1 1 (1 ∷ 0 ∷ []) ∷ []) (neg_ℤ (pos 24576))
    ∷ sitting 2 1 plain_weight 3 (0 ∷ 1 ∷ 0 ∷ 1 ∷ 0 ∷ 1 ∷ 0 ∷ 1 ∷ []) (0 ∷ 0 ∷ 1 ∷ 0 ∷ 0 ∷ 1 ∷ 0 ∷ 0 ∷ []) gives reports (row 1 1 0 (0 ∷ 4 ∷ []) ∷ row 2 1 0 (3 ∷ 2 ∷ []) ∷ row 0 1 1 (5 ∷ 0 ∷ []) ∷ []) (neg_ℤ (pos 80704))
    ∷ sitting 2 0 plain_weight 1 (0 ∷ 1 ∷ 0 ∷ 1 ∷ []) (0 ∷ 1 ∷ 0 ∷ 1 ∷ []) gives reports (row 0 0 0 (4 ∷ 4 ∷ []) ∷ []) (neg_ℤ (pos 77824))
    ∷ sitting 2 1 plain_weight 1 (0 ∷ []) (0 ∷ []) gives each (did ∷ did ∷ did ∷ refused_with 24 ∷ [])
    ∷ []

-- a split of both with a context that is each sample's own, at A = 3; a shared leaf at A = 8
unfoldable pub wider : List Example
wider =
    sitting 3 2 plain_weight 8 (0 ∷ 1 ∷ 2 ∷ 0 ∷ 1 ∷ 2 ∷ 0 ∷ 1 ∷ 2 ∷ 0 ∷ 1 ∷ 2 ∷ []) (0 ∷ 1 ∷ 1 ∷ 2 ∷ 0 ∷ 1 ∷ 1 ∷ 2 ∷ 0 ∷ 1 ∷ 1 ∷ 2 ∷ []) gives reports (row 0 1 0 (0 ∷ 5 ∷ 0 ∷ []) ∷ row 1 1 1 (0 ∷ 0 ∷ 4 ∷ []) ∷ row 2 1 1 (0 ∷ 3 ∷ 3 ∷ []) ∷ row 0 1 2 (5 ∷ 0 ∷ 0 ∷ []) ∷ []) (neg_ℤ (pos 183008))
    ∷ sitting 8 1 plain_weight 4 (0 ∷ 7 ∷ 0 ∷ 7 ∷ 0 ∷ 7 ∷ 0 ∷ 7 ∷ 0 ∷ 7 ∷ []) (0 ∷ 7 ∷ 0 ∷ 7 ∷ 0 ∷ 7 ∷ 0 ∷ 7 ∷ 0 ∷ 1 ∷ []) gives reports (row 0 0 0 (8 ∷ 1 ∷ 0 ∷ 0 ∷ 0 ∷ 0 ∷ 0 ∷ 9 ∷ []) ∷ []) (neg_ℤ (pos 308460))
    ∷ []

-- J3's strings at both limits of the weight. At 0 splits are free: two separate trees score as much as the split of both that J3 reports, and go first. At 16
-- one shared context is left
unfoldable pub weighted : List Example
weighted =
    sitting 2 1 0 3 (0 ∷ 1 ∷ 0 ∷ 1 ∷ 0 ∷ 1 ∷ 0 ∷ 1 ∷ []) (0 ∷ 0 ∷ 1 ∷ 0 ∷ 0 ∷ 1 ∷ 0 ∷ 0 ∷ []) gives reports (row 1 1 0 (0 ∷ 4 ∷ []) ∷ row 2 1 0 (3 ∷ 2 ∷ []) ∷ row 1 1 1 (3 ∷ 0 ∷ []) ∷ row 2 1 1 (2 ∷ 0 ∷ []) ∷ []) (neg_ℤ (pos 39744))
    ∷ sitting 2 1 most_weight 3 (0 ∷ 1 ∷ 0 ∷ 1 ∷ 0 ∷ 1 ∷ 0 ∷ 1 ∷ []) (0 ∷ 0 ∷ 1 ∷ 0 ∷ 0 ∷ 1 ∷ 0 ∷ 0 ∷ []) gives reports (row 0 0 0 (8 ∷ 6 ∷ []) ∷ []) (neg_ℤ (pos 178448))
    ∷ []
