-- `is_declared`: a field of a record read.
use Rattle.memory.proofs.Classes.{declared_read}
use Rattle.memory.proofs.is_declared.Goals as goal

pub returns : goal.returns
returns c = declared_read _ _ c.requires.1 c.byte_in.ensures
