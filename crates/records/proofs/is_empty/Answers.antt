-- `is_empty`: the kind says it.
use Rattle.records.proofs.Ways.{read_empty}
use Rattle.records.proofs.is_empty.Goals as goal

pub returns : goal.returns
returns c = read_empty _ _ c.byte_in.ensures
