-- `sitting_file::read` meets its contract: a header that was read is within its limits. Assumes nothing.
use Rattle.std.proofs.Common.{sym, ◌∙◌}
use Rattle.sitting_file.proofs.Stages.{header_read}
use Rattle.sitting_file.proofs.read.Goals as goal

pub symbols_from-requires : goal.symbols_from-requires
symbols_from-requires c = (header_read _ _ _ (sym c.header.ensures ∙ c.in_ok-shape.was)).limits
