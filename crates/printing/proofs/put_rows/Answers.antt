-- `printing::put_rows` meets its contract: after k turns the first k rows are put, and the others are left. Assumes nothing.
use Prim.Native.Nat.{ℕ, ◌+◌, ◌*◌, ◌<◌}
use native.Mathlib.Omega.{arith}
use Rattle.std.proofs.Common.{rules}
use native.Mathlib.Decide.{dec_le}
use mathlib.Core.Path.{◌≡◌, ap, sym, ◌∙◌}
use mathlib.Core.List.{[], ◌∷◌, ◌++◌}
use lib.ListN.{length, drop, length-append, length-drop}
use Rattle.numbers.specs.Limits.{row_width}
use Rattle.printing.specs.Text.{row_at, rows_text}
use Rattle.placing.proofs.Laws.{puts_none}
use Rattle.printing.proofs.Reports.{row_lent, rows_left, Begun, row_long, room_row, puts_row}
use Rattle.printing.proofs.put_rows.Goals as goal
use Rattle.printing.proofs.put_rows.Goals.{At-loop-row, In-Some}

begun : (l : At-loop-row) → Begun l.args.alphabet l.args.rows l.args.sheet.now l.args.at l.args.buffer.now (length l.loop-row.yielded) l.loop-row.buffer l.loop-row.next
begun l = record { known = l.requires.printable; room = l.requires.has_room; so_far = l.loop-row.invariant.so_far }

more : (s : In-Some) → length s.loop-row.yielded < s.args.rows
more s = omega (arith, s.loop-row.invariant.more, s.in-Some.ensures.steps.1)

wide : (s : In-Some) → length s.in-Some.row.now ≡ row_width
wide s = s.in-Some.ensures.steps.0.1.1 ∙ s.loop-row.invariant.wide

lent : (s : In-Some) → s.in-Some.row.now ≡ row_at s.args.sheet.now (length s.loop-row.yielded)
lent s = row_lent s.args.sheet.now _ _ _ (length s.loop-row.yielded) s.loop-row.invariant.left s.in-Some.ensures.steps.0.1.0 (wide s)

pub loop-row-init : goal.loop-row-init
unfolding rows_text
loop-row-init c = record {
  can = search rules;
  finite = tt;
  wide = search rules;
  more = search rules;
  left = search rules;
  so_far = puts_none _ _;
}

pub put_row-next-requires : goal.put_row-next-requires
put_row-next-requires c =
    let s = (goal.at.put_row-next-requires c).In-Some in
    let l = (goal.at.put_row-next-requires c).At-loop-row in
    rw (lent s) (row_long (begun l) (more s), room_row (begun l) (more s))

pub loop-row-preserved : goal.loop-row-preserved
loop-row-preserved c =
    let s = (goal.at.loop-row-preserved c).In-Some in
    let l = (goal.at.loop-row-preserved c).At-loop-row in
    let k : length (c.loop-row.yielded ++ (c.in-Some.row ∷ [])) ≡ length c.loop-row.yielded + 1 = simp length-append in
    record {
      can = omega (arith, s.in-Some.ensures.steps.0.0, s.loop-row.invariant.can);
      finite = tt;
      wide = s.in-Some.ensures.steps.0.0 ∙ s.loop-row.invariant.wide;
      more = omega (arith, k, s.in-Some.ensures.steps.1, s.loop-row.invariant.more);
      left = rows_left c.args.sheet.now _ _ _ (length c.loop-row.yielded) s.loop-row.invariant.left s.in-Some.ensures.steps.0.1.0 (wide s) ∙ ap (λ (n : ℕ). drop (row_width * n) c.args.sheet.now) (sym k);
      so_far = rw k (puts_row (begun l) (more s) _ _ (rw (lent s) at c.put_row-next.ensures));
    }

pub returns : goal.returns
returns c =
    let none : c.loop-row.row-iterator.n ≡ 0 =
    elim (dec_le 1 c.loop-row.row-iterator.n) [
      | yes m ↦ absurd (omega (arith, (c.in-None.ensures.steps m).1.0, c.loop-row.invariant.wide, c.loop-row.invariant.more, ap length c.loop-row.invariant.left, length-drop (row_width * length c.loop-row.yielded) c.args.sheet.now, c.requires.printable.whole))
      | no m ↦ omega arith
    ] in
    let e : length c.loop-row.yielded ≡ c.args.rows = omega (arith, none, c.loop-row.invariant.more) in
    rw (← e) c.loop-row.invariant.so_far
