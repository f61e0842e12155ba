-- `opened`: the state is made anew.
use Rattle.tree_builder.specs.State.{opened_at}
use mathlib.Core.Path.{refl}
use Rattle.tree_builder.proofs.opened.Goals as goal

pub returns : goal.returns
unfolding opened_at
returns c = refl
