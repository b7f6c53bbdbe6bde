-- `salvage_input::salvage_input` meets its contract: the bytes read are salvaged, and the answer's line is put. Assumes nothing.
use Rattle.std.proofs.Common.{ℕ, List, take, ap, subst}
use Rattle.printing.specs.Putting.{Printed}
use Rattle.printing.specs.Text.{refusal_text}
use Rattle.salvage_input.proofs.Filtering.{input_filters}
use Rattle.salvage_input.proofs.PutOut.{few_lost, refused_out, saved_out}
use Rattle.salvage_input.proofs.salvage_input.Goals as goal

pub put_losses-requires : goal.put_losses-requires
put_losses-requires c =
    let bytes = take c.judged_bytes-end.result c.args.input.now in
    few_lost bytes c.args.file.now c.salvage.new.file _ c.in-Ok.ensures.0

pub returns-in-Ok : goal.returns-in-Ok
returns-in-Ok c =
    let s = c.args in
    let bytes = take c.judged_bytes-end.result s.input.now in
    input_filters s.file.now s.line.now _ _ _ s.input.now s.many s.beyond c.judged_bytes-end.result c.told-input c.judged_bytes-end.ensures
    (saved_out bytes s.file.now s.line.now c.told-file s.beyond _ c.salvage.result _ _ _ c.salvage.ensures c.in-Ok.is c.put_losses.ensures)

pub returns-in-Err : goal.returns-in-Err
returns-in-Err c =
    let s = c.args in
    let bytes = take c.judged_bytes-end.result s.input.now in
    let line = ap refusal_text c.from.ensures in
    input_filters s.file.now s.line.now _ _ _ s.input.now s.many s.beyond c.judged_bytes-end.result c.told-input c.judged_bytes-end.ensures
    (refused_out bytes s.file.now s.line.now c.told-file s.beyond _ c.salvage.result _ _ _ c.salvage.ensures c.in-Err.is
    (subst (λ (l : List ℕ). Printed l s.line.now c.put_refusal.new.buffer c.put_refusal.result) line c.put_refusal.ensures))
