-- What the writing of rows asks and gives. Assumes nothing.
use Rattle.std.specs.Prelude.{◌≡◌, Bool, cond, List, [], ◌∷◌, ◌++◌, map, ℕ, ◌+◌, ◌^◌, ◌≤◌, length, take, drop, get_or, T}
use Rattle.numbers.specs.Limits.{most_counted}
use Rattle.contexts.specs.Context.{is_context, code_of}
use Rattle.contexts.specs.Keys.{key_of}
use Rattle.contexts.specs.Sitting.{first, second, Sitting, eight, row_in, sum_of}
use Rattle.estimate.specs.Recursion.{losses}
use Rattle.estimate.specs.Table.{counts_in, CostsOf}
use Rattle.estimate.specs.declared.ByKind.{ByKind}
use Rattle.rows.specs.Members.{Member}
use Rattle.rows.specs.Rows.{row_of, report_of, sheet_of, kind_of}
use Rattle.records.specs.Records.{records, keys, lookup}
use Rattle.records.specs.Held.{rank, held, count_table}
use Rattle.weighing.specs.declared.Desk.{Desk}
use Rattle.listing.specs.declared.Plan.{Plan}
use Rattle.listing.specs.declared.Spot.{Spot}
use Rattle.listing.specs.declared.Step.{Step}
use Rattle.weighing.specs.Sitting.{sitting_in, Weighable}
use Rattle.weighing.specs.Visit.{span_of, Small, leaf_mark}
use Rattle.weighing.specs.Weighs.{Decided}
use Rattle.listing.specs.Plans.{wanted, plan_of}

-- the numbers of the rows of some members
abbrev pub sheet_for : Sitting → List Member → List ℕ
sheet_for x ps = sheet_of (map (row_of x) ps)

-- the numbers stand on the sheet from a place on, the rest is as it was; the place after them
pub record WroteAt (before after : List ℕ) (to : ℕ) (rows : List ℕ) (past : ℕ) : Type 0 where
  pub sheet : after ≡ take to before ++ (rows ++ drop (to + length rows) before)
  pub past_is : past ≡ to + length rows

-- a row's eleven numbers, where it is wanted
abbrev pub numbers_if : Bool → ℕ → ℕ → ℕ → List (List ℕ) → List ℕ
numbers_if on kind len code counts = cond on (kind ∷ len ∷ code ∷ eight (counts_in counts (kind_of kind))) []

-- .. of the rows that a plan has at one context
abbrev pub numbers_here : Plan → ℕ → ℕ → List (List ℕ) → List ℕ
numbers_here p len code counts = numbers_if p.shared 0 len code counts ++ (numbers_if p.first 1 len code counts ++ numbers_if p.second 2 len code counts)

-- there is room for them, and the counts can be added
pub record Roomy (top to size : ℕ) (counts : List (List ℕ)) : Type 0 where
  pub room : to + size ≤ top
  pub counted : sum_of (row_in counts first) + sum_of (row_in counts second) ≤ most_counted

-- the numbers of the rows that are wanted at s and below it
abbrev pub rows_from : Desk → ℕ → List ℕ → List ℕ → Spot → List ℕ
rows_from k n l s c = sheet_for (sitting_in k (records n l)) (wanted k.symbols c.left (losses (sitting_in k (records n l))) c.way s)

-- what the writing of the rows at the context s and below it asks, on a sheet of `top` numbers from place `to` on
pub record CanWrite (k : Desk) (costs : ByKind) (n : ℕ) (l kept : List ℕ) (top : ℕ) (s : List ℕ) (c : Spot) (to : ℕ) : Type 0 where
  pub weighable : Weighable k n l
  pub priced : CostsOf k.weight k.symbols k.n k.m costs
  pub decided : Decided k n l kept
  pub context : T (is_context k.symbols k.depth s)
  pub key_is : c.key ≡ key_of k.number s
  pub span_is : c.span ≡ span_of s
  pub left_is : length s + c.left ≡ k.depth
  pub code_is : c.code ≡ code_of s
  pub power_is : c.power ≡ 8 ^ length s
  pub room : to + length (rows_from k n l s c) ≤ top

-- decisions can be read under every key: there is one beside each record, and where none is held, a leaf that costs this gives it
pub record CanReadMarks (n : ℕ) (kept : List ℕ) (costs : ByKind) : Type 0 where
  pub beside : n ≤ length kept
  pub small : Small costs

-- the decision under a key: the one kept beside its record, or that of a leaf that costs this
abbrev pub kept_mark : ℕ → List ℕ → List ℕ → ByKind → ℕ → ℕ
kept_mark n l kept costs key = cond (held key (records n l)) (get_or kept (rank key (keys (records n l))) 0) (leaf_mark costs)

-- .. and the plan that it gives
abbrev pub kept_plan : ℕ → List ℕ → List ℕ → ByKind → Spot → Plan
kept_plan n l kept costs c = plan_of c.way (kept_mark n l kept costs c.key)

-- the rows of one context, by its numbers: what their writing gives
pub record WroteNumbers (n : ℕ) (l kept : List ℕ) (costs : ByKind) (before after : List ℕ) (c : Spot) (len to : ℕ) (r : Step) : Type 0 where
  pub way_is : r.way ≡ (kept_plan n l kept costs c).next
  pub written : WroteAt before after to (numbers_here (kept_plan n l kept costs c) len c.code (count_table (lookup c.key (records n l)))) r.to

-- what the writing of a report asks: the decisions of a weighing, and room on the sheet
pub record CanReport (k : Desk) (n : ℕ) (l kept sheet : List ℕ) : Type 0 where
  pub weighable : Weighable k n l
  pub decided : Decided k n l kept
  pub room : length (sheet_of (report_of (sitting_in k (records n l)))) ≤ length sheet

-- the rows of the report stand at the beginning of the sheet, and every number after them is as it was
pub record Listed (k : Desk) (n : ℕ) (l before after : List ℕ) : Type 0 where
  pub sheet : after ≡ sheet_of (report_of (sitting_in k (records n l))) ++ drop (length (sheet_of (report_of (sitting_in k (records n l))))) before
