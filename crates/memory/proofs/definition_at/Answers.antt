-- `definition_at`: a field of a record read.
use Rattle.memory.proofs.Records.{definition_read}
use Rattle.memory.proofs.definition_at.Goals as goal

pub returns : goal.returns
returns c = definition_read _ _ c.requires.0 c.requires.1 c.two_in.ensures
