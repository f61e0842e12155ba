-- `put_labels`: five pieces.
use mathlib.Core.Path.{ap}
use Rattle.rules.specs.Schedule.{decimal, labels_text}
use Rattle.schedule.proofs.Appending.{then_piece, piece_is}
use Rattle.schedule.proofs.pieces.put_labels.Goals as goal

pub returns : goal.returns
unfolding labels_text
returns c =
    then_piece _ _ _ _ c.put_text-space.ensures
    (then_piece _ _ _ _ (piece_is _ _ (ap decimal c.count.ensures) c.put_number-count.ensures)
    (then_piece _ _ _ _ c.put_text-second.ensures (then_piece _ _ _ _ c.put_label_list-list.ensures c.put_text.ensures)))
