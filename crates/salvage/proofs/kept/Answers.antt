-- `salvage::kept` meets its contract: the place that `position` finds is where the kept bytes end. Assumes nothing.
use Rattle.std.proofs.Common.{rules, tests}
use Rattle.std.proofs.lemmas.Iterator.{YieldsList-from_slice}
use Rattle.std.proofs.lemmas.Iterator.Search.{position_from_yields_List}
use lib.Dec.{leb}
use Rattle.salvage.proofs.Keeping.{kept_found}
use Rattle.salvage.proofs.kept.Goals as goal

pub returns : goal.returns
returns c =
    let bytes = c.args.bytes.now in
    let found = position_from_yields_List (leb c.args.alphabet) _ _ c.position-end.result c.position-end.ensures.ran (YieldsList-from_slice bytes cc) (λ x b q k. search (rules, tests)) in
    rw c.unwrap_or.ensures (kept_found c.args.alphabet bytes c.position-end.result found)
