-- `trail`: a set read.
use Rattle.cells.specs.Layout.{trail_of}
use Rattle.memory.proofs.trail.Goals as goal

pub returns : goal.returns
unfolding trail_of
returns c = c.read_within.ensures
