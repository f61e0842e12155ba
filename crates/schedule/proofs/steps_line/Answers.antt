-- `steps_line`: three pieces, and the line is finished.
use Rattle.rules.specs.Schedule.{steps_line}
use Rattle.schedule.proofs.Appending.{then_piece, line_finished}
use Rattle.schedule.proofs.steps_line.Goals as goal

pub returns : goal.returns
unfolding steps_line
returns c =
    line_finished _ _ (then_piece _ _ _ _ c.put_text-word.ensures (then_piece _ _ _ _ c.put_number-number.ensures c.put_text-end.ensures)) c.finish.ensures
