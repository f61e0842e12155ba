-- `pass_behind`: what its fields say.
use Rattle.parser.proofs.text.pass_behind.Goals as goal

pub returns : goal.returns
returns c = rw c.operand_behind.ensures
