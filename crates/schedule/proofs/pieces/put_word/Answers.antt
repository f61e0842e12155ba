-- `put_word`: a string, then a space.
use Rattle.schedule.proofs.Appending.{then_piece, piece_is}
use Rattle.schedule.proofs.pieces.put_word.Goals as goal

pub returns : goal.returns
returns c = then_piece _ _ _ _ (piece_is _ _ c.get.ensures c.put_text-end.ensures) c.put_text.ensures
