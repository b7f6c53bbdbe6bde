-- `printing::put_rows` meets its contract: after k turns the first k rows are put, and the others are left. Assumes nothing.
use Prim.Native.Nat.{◌+◌, ◌*◌}
use mathlib.Core.Path.{◌≡◌}
use lib.ListN.{length, drop}
use Rattle.numbers.specs.Limits.{row_width}
use Rattle.printing.specs.Text.{rows_text}
use Rattle.placing.specs.Placing.{Puts}
use Rattle.printing.proofs.put_rows.Given as goal

abbrev pub invariant-loop-row : goal.invariant-loop-row
invariant-loop-row l = record {
  can : (goal.iterator-loop-row).can_next l.row-iterator;
  finite : (goal.iterator-loop-row).is_finite l.row-iterator;
  wide : l.row-iterator.iter.size ≡ row_width;
  more : l.row-iterator.n + length l.yielded ≡ l.rows;
  left : l.row-iterator.iter.rest.now ≡ drop (row_width * length l.yielded) l.sheet;
  so_far : Puts (rows_text l.alphabet (length l.yielded) l.sheet) l.at l.initial.buffer l.buffer l.next;
}
