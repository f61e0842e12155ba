-- `put_start`: two words.
use Rattle.schedule.proofs.Lines.{start_pieces}
use Rattle.schedule.proofs.Appending.{then_piece, piece_is}
use Rattle.schedule.proofs.put_start.Goals as goal

pub returns : goal.returns
returns c =
    piece_is _ _ (start_pieces _ _ _ c.two_at-kind.ensures c.two_at-title.ensures) (then_piece _ _ _ _ c.put_word-end.ensures c.put_word.ensures)
