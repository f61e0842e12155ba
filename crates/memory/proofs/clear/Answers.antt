-- `clear`: a run of zeros as long as the memory.
use Rattle.memory.proofs.Start.{clear_way}
use Rattle.memory.proofs.clear.Goals as goal

pub returns : goal.returns
returns c = clear_way _ c.clear.ensures
