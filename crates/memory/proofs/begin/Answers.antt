-- `begin`: two runs of zeros.
use Rattle.memory.proofs.Start.{begin_way}
use Rattle.memory.proofs.begin.Goals as goal

pub returns : goal.returns
returns c = begin_way _ _ _ c.requires c.clear.ensures c.clear-2.ensures
