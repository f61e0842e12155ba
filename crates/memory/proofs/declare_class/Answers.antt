-- `declare_class`: two fields of a record stored.
use native.Mathlib.Omega.{arith}
use Rattle.memory.proofs.Classes.{declare_way}
use Rattle.memory.proofs.declare_class.Goals as goal

pub returns : goal.returns
returns c =
    declare_way _ _ _ _ c.requires.0 c.requires.1 (omega arith) c.class_state.ensures c.put_byte.ensures c.put_two.ensures
