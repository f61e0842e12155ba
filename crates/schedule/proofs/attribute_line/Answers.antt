-- `attribute_line`: four pieces, and the line is finished.
use Rattle.schedule.proofs.Lines.{attribute_pieces}
use Rattle.schedule.proofs.Appending.{then_piece, piece_is, line_finished}
use Rattle.schedule.proofs.attribute_line.Goals as goal

pub returns : goal.returns
returns c =
    line_finished _ _
    (piece_is _ _ (attribute_pieces _ _ _ _ c.two_at-name.ensures c.read_attribute-content.ensures)
    (then_piece _ _ _ _ c.put_start-start.ensures (then_piece _ _ _ _ c.put_word-named.ensures (then_piece _ _ _ _ c.put_value-shown.ensures c.put_labels-end.ensures))))
    c.finish.ensures
