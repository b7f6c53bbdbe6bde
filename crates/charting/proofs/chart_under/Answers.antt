-- `charting::chart_under` meets its contract: the counts are those under the key among the records in use. Assumes nothing.
use mathlib.Core.Path.{◌≡◌, ap, ◌∙◌}
use mathlib.Core.List.{List}
use lib.ListN.{length, take, drop}
use Prim.Native.Nat.{ℕ, ◌-◌}
use native.Mathlib.Omega.{arith}
use Rattle.records.specs.Records.{lookup, records}
use Rattle.records.specs.Held.{count_table}
use Rattle.records.proofs.Lent.{tail_lent}
use Rattle.chart.specs.Answer.{chart_in}
use Rattle.store.specs.Layout.{header_size, used, records_in}
use Rattle.charting.proofs.chart_under.Goals as goal

pub overflow_cast-n : goal.overflow_cast-n
overflow_cast-n c = omega (arith, c.type_inv.store 1)

pub invariant_of-held : goal.invariant_of-held
invariant_of-held c = rw (tail_lent header_size c.args.store.now) (record { standing = c.requires.standing })

-- the part that was lent is the store's from the header on
counts_are : (s : List ℕ) (k : ℕ) (t : List (List ℕ)) → t ≡ count_table (lookup k (records (used s) (take (length s - header_size) (drop header_size s)))) → t ≡ count_table (lookup k (records_in s))
unfolding records_in
counts_are s k t e = rw (tail_lent header_size s) at e

pub chart_of-requires : goal.chart_of-requires
chart_of-requires c = rw (counts_are c.args.store.now c.args.key _ c.table_of.ensures) c.requires.askable

pub returns : goal.returns
returns c =
    let a = c.args.symbol in
    c.chart_of.ensures ∙ ap (λ (t : List (List ℕ)). chart_in t a) (counts_are c.args.store.now c.args.key _ c.table_of.ensures)
