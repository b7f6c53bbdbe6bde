-- A row when the samples are exchanged, and when the symbols are renamed; rows in order again. Assumes nothing.
use Rattle.std.specs.Prelude.{ℕ, cond, get_or, eqb}
use mathlib.Core.List.{List, map, Perm}
use Rattle.numbers.specs.Sum.{sum}
use Rattle.contexts.specs.Sitting.{eight}
use Rattle.estimate.specs.Exchange.{swap}
use Rattle.rows.specs.Members.{Member, member, Increasing}
use Rattle.rows.specs.Rows.{Row}

-- "with kinds 1 and 2 exchanged"
abbrev pub exchanged_row : Row → Row
exchanged_row r = record { kind = swap r.kind; context = r.context; counts = r.counts }

-- of A symbols, a gets the name π a: the count of the symbol that is now b
abbrev pub renamed_count : ℕ → (ℕ → ℕ) → List ℕ → ℕ → ℕ
renamed_count A π counts b = sum A (λ a. cond (eqb (π a) b) (get_or counts a 0) 0)

-- "with codes and counts renamed likewise": a row's code is that of its context
abbrev pub renamed_row : ℕ → (ℕ → ℕ) → Row → Row
renamed_row A π r = record { kind = r.kind; context = map π r.context; counts = eight (renamed_count A π r.counts) }

-- the context of a row, with its kind
abbrev pub member_in : Row → Member
member_in r = member r.kind r.context

-- rs are the rows qs, each changed so, none lost or doubled, "and the rows in order again"
pub record InOrderAgain (change : Row → Row) (qs rs : List Row) : Type 0 where
  pub same_rows : Perm (map change qs) rs
  pub in_order : Increasing (map member_in rs)
