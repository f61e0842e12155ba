-- `resource_line`: three pieces, and the line is finished.
use Rattle.schedule.proofs.Lines.{resource_pieces}
use Rattle.schedule.proofs.Appending.{then_piece, piece_is, line_finished}
use Rattle.schedule.proofs.resource_line.Goals as goal

pub returns : goal.returns
returns c =
    line_finished _ _
    (piece_is _ _ (resource_pieces _ _ _ c.read_at-labels.ensures) (then_piece _ _ _ _ c.put_start-start.ensures (then_piece _ _ _ _ c.put_text-none.ensures c.put_labels-end.ensures)))
    c.finish.ensures
