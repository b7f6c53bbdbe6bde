-- A record's counts, as the code reads them. Assumes nothing.
use mathlib.Core.Path.{◌≡◌, sym, ap, ◌∙◌}
use mathlib.Core.List.{List}
use Prim.Native.Nat.{ℕ, ◌+◌, ◌-◌, ◌*◌, ◌≤◌}
use native.Mathlib.Omega.{arith}
use lib.ListN.{take, drop}
use lib.Seq.{drop-drop, take-take}
use Rattle.numbers.specs.Limits.{most_symbols}
use Rattle.numbers.proofs.Lists.{drop_take}
use Rattle.records.specs.Records.{width}
use Rattle.records.specs.Held.{record_at}

-- the eight numbers from number `from` of the record at place p on
pub record_cells : (p from : ℕ) (l : List ℕ) → from + most_symbols ≤ width
    → take most_symbols (drop (width * p + from) l) ≡ take most_symbols (drop from (record_at p l))
record_cells p from l g =
    sym (
    ap (take most_symbols) (drop_take from width (drop (width * p) l))
    ∙ take-take most_symbols (width - from) (drop from (drop (width * p) l)) (omega arith)
    ∙ ap (take most_symbols) (drop-drop from (width * p) l)
    )
