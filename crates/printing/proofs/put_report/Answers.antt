-- `printing::put_report` meets its contract: the first line, then the rows, and the text fits. Assumes nothing.
use Prim.Native.Nat.{ℕ}
use native.Mathlib.Omega.{arith}
use mathlib.Core.Path.{refl}
use mathlib.Core.List.{List, ◌++◌}
use Rattle.printing.specs.Text.{head_text, rows_text}
use Rattle.placing.specs.Placing.{HasRoom}
use Rattle.placing.proofs.Laws.{room_front, room_back, puts_then}
use Rattle.printing.proofs.Lengths.{Small, report_fits}
use Rattle.printing.proofs.Settled.{put_printed}
use Rattle.printing.proofs.put_report.Goals as goal
use Rattle.printing.proofs.put_report.Goals.{Start}

-- the two parts of the text, and room for both
module _ (s : Start) where
  abbrev first : List ℕ
  first = let h = s.args.head in head_text h.alphabet h.depth h.first h.second h.rows h.score

  abbrev rows : List ℕ
  rows = rows_text s.args.head.alphabet s.args.head.rows s.args.sheet.now

  room : Small s.args.sheet.now → HasRoom (first ++ rows) 0 s.args.buffer.now
  room small =
      let h = s.args.head in
      let g = s.well_formed.1.0.1 in
      omega (arith, s.told-buffer, report_fits h.alphabet h.rows s.args.sheet.now s.requires small h.depth h.first h.second h.score g.1.1.0.1 g.1.1.1.0.1 g.1.1.1.1.0.1 (record { sfits = g.1.1.1.1.1.1.0.1 }))

pub put_head-at-requires : goal.put_head-at-requires
put_head-at-requires c =
    let s = (goal.at.put_head-at-requires c).Start in
    room_front (first s ++ rows s) (first s) (rows s) refl 0 c.args.buffer.now (room s (λ i. (c.type_inv.sheet i).fits))

pub put_rows-requires-clause-has_room : goal.put_rows-requires-clause-has_room
put_rows-requires-clause-has_room c =
    let s = (goal.at.put_rows-requires-clause-has_room c).Start in
    room_back (first s ++ rows s) (first s) (rows s) refl 0 c.args.buffer.now (room s (λ i. (c.type_inv.sheet i).fits)) _ _ c.put_head-at.ensures

pub returns : goal.returns
returns c =
    let s = (goal.at.returns c).Start in
    let r = room s (λ i. (c.type_inv.sheet i).fits) in
    put_printed (first s ++ rows s) c.args.buffer.now _ _ r
    (puts_then (first s ++ rows s) (first s) (rows s) refl 0 c.args.buffer.now r _ _ c.put_head-at.ensures _ _ c.put_rows.ensures)
