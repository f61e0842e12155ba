-- `set_built_in`: a field of a record stored.
use Rattle.rules.specs.State.{one_if}
use Rattle.memory.proofs.Records.{built_in_way}
use Rattle.memory.proofs.set_built_in.Goals as goal

pub returns : goal.returns
unfolding one_if
returns c =
    built_in_way _ _ c.requires.0 c.requires.1 _ _ c.put_byte.ensures
