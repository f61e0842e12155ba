-- `put_text`: the line is past the end already, the piece takes it past the end, or it fits.
use Rattle.schedule.proofs.Appending.{piece_past, piece_long, piece_fits}
use Rattle.schedule.proofs.pieces.put_text.Goals as goal

pub returns-then-line-at : goal.returns-then-line-at
returns-then-line-at c = piece_past _ _ _ c.copy_into.ensures c.if-line-at.true

pub returns-then-line-at-2 : goal.returns-then-line-at-2
returns-then-line-at-2 c = piece_long _ _ _ c.copy_into.ensures c.if-line-at.false c.if-line-at-2.true

pub returns : goal.returns
returns c = piece_fits _ _ _ c.copy_into.ensures c.if-line-at.false c.if-line-at-2.false
