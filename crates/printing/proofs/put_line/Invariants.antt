-- `printing::put_line` meets its contract: after i turns the first i numbers are put, each with its blank. Assumes nothing.
use lib.ListN.{take}
use Rattle.placing.specs.Placing.{Puts}
use Rattle.printing.proofs.Lines.{parted}
use Rattle.printing.proofs.put_line.Given as goal

abbrev pub invariant-loop-number : goal.invariant-loop-number
invariant-loop-number l = Puts (parted (take l.number-index l.numbers)) l.at l.initial.buffer l.buffer l.next
