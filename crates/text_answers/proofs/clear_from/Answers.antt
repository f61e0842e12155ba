-- `clear_from`: both runs of zeros.
use Rattle.text_answers.proofs.Ending.{clears}
use Rattle.text_answers.proofs.clear_from.Goals as goal

pub returns : goal.returns
returns c = clears _ c.requires c.clear.ensures c.clear-2.ensures
