-- `base_of`: a field of a record read.
use Rattle.memory.proofs.Classes.{base_read}
use Rattle.memory.proofs.base_of.Goals as goal

pub returns : goal.returns
returns c = base_read _ _ c.requires.1 c.byte_in.ensures
