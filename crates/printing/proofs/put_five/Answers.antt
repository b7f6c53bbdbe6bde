-- `printing::put_five` meets its contract: one line, and it fits. Assumes nothing.
use native.Mathlib.Omega.{arith}
use mir.Facts.{to_z-of_z}
use Rattle.printing.proofs.Lengths.{line_fits}
use Rattle.printing.proofs.put_five.Goals as goal

pub put_line-requires : goal.put_line-requires
put_line-requires c =
    rw (to_z-of_z c.ranges.last)
    (omega (arith, c.told-buffer, line_fits c.args.numbers.now c.args.last (omega (arith, c.told-numbers)) c.fits-numbers c.ranges.last))
