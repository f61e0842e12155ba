-- `with_part`: the state is made anew.
use Rattle.tree_builder.specs.State.{with_part}
use Rattle.tree_builder.proofs.with_part.Goals as goal

pub returns : goal.returns
unfolding with_part
returns c = rw c.taller.ensures
