-- `refuse`: nothing stays.
use Rattle.text_answers.proofs.Ending.{refuses}
use Rattle.text_answers.proofs.refuse.Goals as goal

pub returns : goal.returns
returns c = rw c.at.ensures (refuses _ _ c.clear_from.ensures)
