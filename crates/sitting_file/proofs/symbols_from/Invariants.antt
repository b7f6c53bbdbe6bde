-- `sitting_file::symbols_from` meets its contract: at each turn the symbols that are left decide the answer. Assumes nothing.
use Rattle.std.proofs.Common.{◌≡◌, ◌+◌, ◌-◌}
use Rattle.sitting_file.specs.Format.{symbols_from}
use Rattle.sitting_file.proofs.symbols_from.Given as goal

abbrev pub invariant-loop : goal.invariant-loop
invariant-loop l = symbols_from l.file l.shape (l.shape.first + l.shape.second) l.from ≡ symbols_from l.file l.shape (l.end - l.counter) l.at
