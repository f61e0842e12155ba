-- `set_definition`: a field of a record stored.
use native.Mathlib.Omega.{arith}
use Rattle.memory.proofs.Records.{definition_way}
use Rattle.memory.proofs.set_definition.Goals as goal

pub returns : goal.returns
returns c =
    definition_way _ _ c.requires.0 c.requires.1 _ _ (omega arith) c.put_two.ensures
