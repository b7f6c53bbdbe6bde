-- The marked examples hold, by computation. Assumes nothing.
use mathlib.Core.Path.{refl}
use Rattle.numbers.specs.Sum.{sum}
use Rattle.logarithm.specs.Logarithm.{L}
use Rattle.contexts.specs.Context.{code_of}
use Rattle.contexts.specs.Strings.{total}
use Rattle.estimate.specs.Score.{sumℤ, totalℤ}
use Rattle.estimate.specs.Recursion.{spread, best, joint, tree, estimate}
use Rattle.rows.specs.Members.{gather, members}
use Rattle.replay.specs.Room.{reserved, left}
use Rattle.replay.specs.Table.{verdict_of}
use Rattle.replay.specs.Machine.{put, settle, outside_limits, weight_outside, zero_or_above_k, above_room_left, opening_table, own_lines, asking_table, table_at, table_of, answer_at, answer_of, verdict, moved, shift, move}
use Rattle.replay.specs.Serial.{outcomes, after}
use Rattle.rules.specs.Feed.{after_feed}
use Rattle.rules.specs.Rules as sitting
use Rattle.demands.specs.Marked.{AllHold, marked, wider, weighted}

-- THEOREM
pub marked_hold : AllHold marked
unfolding marked after L sum code_of total sumℤ totalℤ spread best joint tree estimate gather members reserved left verdict_of put settle outside_limits weight_outside zero_or_above_k above_room_left opening_table own_lines asking_table table_at table_of answer_at answer_of verdict moved shift move outcomes after_feed sitting.lines_of sitting.ask_answer sitting.next_of
marked_hold = refl

pub wider_hold : AllHold wider
unfolding wider L sum code_of total sumℤ totalℤ spread best joint tree estimate gather members reserved left verdict_of put settle outside_limits weight_outside zero_or_above_k above_room_left opening_table own_lines asking_table table_at table_of answer_at answer_of verdict moved shift move outcomes after_feed sitting.lines_of sitting.ask_answer sitting.next_of
wider_hold = refl

pub weighted_hold : AllHold weighted
unfolding weighted L sum code_of total sumℤ totalℤ spread best joint tree estimate gather members reserved left verdict_of put settle outside_limits weight_outside zero_or_above_k above_room_left opening_table own_lines asking_table table_at table_of answer_at answer_of verdict moved shift move outcomes after_feed sitting.lines_of sitting.ask_answer sitting.next_of
weighted_hold = refl
