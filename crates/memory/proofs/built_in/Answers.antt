-- `built_in`: a field of a record read.
use Rattle.memory.proofs.Records.{built_in_read}
use Rattle.memory.proofs.built_in.Goals as goal

pub returns : goal.returns
returns c = built_in_read _ _ c.requires.0 c.requires.1 c.byte_in.ensures
