-- `printing::put_line` meets its contract: after i turns the first i numbers are put, each with its blank. Assumes nothing.
use native.Mathlib.Omega.{arith}
use Rattle.printing.proofs.Decimals.{std_digits, std_signed}
use Rattle.printing.proofs.Lines.{Begun, room_number, room_blank, puts_number, room_end, room_feed, puts_line}
use Rattle.printing.proofs.put_line.Goals as goal
use Rattle.printing.proofs.put_line.Goals.{At-loop-number}

begun : (l : At-loop-number) → Begun l.args.numbers.now l.args.last l.args.at l.args.buffer.now l.loop-number.number-index l.loop-number.buffer l.loop-number.next
begun l = record { room = l.requires; so_far = l.loop-number.invariant }

pub put_number-end-requires : goal.put_number-end-requires
put_number-end-requires c =
    room_number (begun (goal.at.put_number-end-requires c).At-loop-number) c.loop-number-test.true _ (std_digits _ (omega (arith, c.type_inv.number)))

pub put_byte-next-requires : goal.put_byte-next-requires
put_byte-next-requires c =
    room_blank (begun (goal.at.put_byte-next-requires c).At-loop-number) c.loop-number-test.true _ (std_digits _ (omega (arith, c.type_inv.number))) _ _ c.put_number-end.ensures

pub loop-number-preserved : goal.loop-number-preserved
loop-number-preserved c =
    puts_number (begun (goal.at.loop-number-preserved c).At-loop-number) c.loop-number-test.true _ (std_digits _ (omega (arith, (c.type_inv.numbers c.loop-number.number-index).fits))) _ _ c.put_number-end.ensures _ _ c.put_byte-next.ensures

pub put_number-end-requires-2 : goal.put_number-end-requires-2
put_number-end-requires-2 c =
    room_end (begun (goal.at.put_number-end-requires-2 c).At-loop-number) c.loop-number-test.false _ (std_signed c.args.last c.ranges.last)

pub put_byte-requires : goal.put_byte-requires
put_byte-requires c =
    room_feed (begun (goal.at.put_byte-requires c).At-loop-number) c.loop-number-test.false _ (std_signed c.args.last c.ranges.last) _ _ c.put_number-end-2.ensures

pub returns : goal.returns
returns c =
    puts_line (begun (goal.at.returns c).At-loop-number) c.loop-number-test.false _ (std_signed c.args.last c.ranges.last) _ _ c.put_number-end-2.ensures _ _ c.put_byte.ensures
