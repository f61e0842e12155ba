-- `closed`: the state is made anew.
use Rattle.tree_builder.specs.State.{closed_into}
use Rattle.tree_builder.proofs.closed.Goals as goal

pub returns : goal.returns
unfolding closed_into
returns c = rw c.taller.ensures
