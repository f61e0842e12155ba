-- `accept`: what is written stays.
use Rattle.text_answers.proofs.Ending.{accepts}
use Rattle.text_answers.proofs.accept.Goals as goal

pub returns : goal.returns
returns c = accepts _ c.requires c.clear_from.ensures
