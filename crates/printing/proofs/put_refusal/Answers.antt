-- `printing::put_refusal` meets its contract: the word, then the number's line. Assumes nothing.
use native.Mathlib.Omega.{arith}
use mathlib.Core.Path.{◌≡◌, refl, ap, ◌∙◌}
use mathlib.Core.List.{[], ◌∷◌}
use lib.IntN.{ℤ, pos}
use mir.Syntax.{w64}
use mir.Val.{to_z, of_z}
use mir.Facts.{to_z-of_z}
use Rattle.printing.specs.Text.{ascii, line_of, refusal_text}
use Rattle.placing.specs.Placing.{HasRoom}
use Rattle.placing.proofs.Laws.{room_back, puts_then}
use Rattle.printing.proofs.Lengths.{refusal_fits}
use Rattle.printing.proofs.Settled.{put_printed}
use Rattle.printing.proofs.put_refusal.Goals as goal
use Rattle.printing.proofs.put_refusal.Goals.{Start, After-from}

room : (s : Start) → HasRoom (refusal_text s.args.number) 0 s.args.buffer.now
room s = omega (arith, s.told-buffer, refusal_fits s.args.number s.ranges.number.fits)

-- the number as the machine reads it
read : (s : After-from) → to_z w64 (of_z w64 s.from.result) ≡ pos s.args.number
read s = ap (λ (z : ℤ). to_z w64 (of_z w64 z)) s.from.ensures ∙ to_z-of_z {w = w64} (record { sfits = omega (arith, s.ranges.number) })

pub put_line-requires : goal.put_line-requires
unfolding ascii
put_line-requires c =
    let s = (goal.at.put_line-requires c).Start in
    rw (read (goal.at.put_line-requires c).After-from) (room_back (refusal_text c.args.number) (ascii "refused ") (line_of (pos c.args.number ∷ [])) refl 0 c.args.buffer.now (room s) _ _ c.put_bytes-at.ensures)

pub returns : goal.returns
unfolding ascii
returns c =
    let s = (goal.at.returns c).Start in
    put_printed (refusal_text c.args.number) c.args.buffer.now _ _ (room s)
    (puts_then (refusal_text c.args.number) (ascii "refused ") (line_of (pos c.args.number ∷ [])) refl 0 c.args.buffer.now (room s) _ _ c.put_bytes-at.ensures _ _ (rw (read (goal.at.returns c).After-from) at c.put_line.ensures))
