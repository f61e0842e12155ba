-- `refusal_line`: five pieces, and the line is finished.
use mathlib.Core.Path.{ap}
use Rattle.rules.specs.Schedule.{decimal, refusal_line}
use Rattle.schedule.proofs.Appending.{then_piece, line_finished, piece_is}
use Rattle.schedule.proofs.refusal_line.Goals as goal

pub returns : goal.returns
unfolding refusal_line
returns c =
    line_finished _ _
    (then_piece _ _ _ _ c.put_text-word.ensures
    (then_piece _ _ _ _ (piece_is _ _ (ap decimal c.number_of.ensures) c.put_number-number.ensures)
    (then_piece _ _ _ _ c.put_text-preposition.ensures (then_piece _ _ _ _ c.put_number-offset.ensures c.put_text-end.ensures))))
    c.finish.ensures
