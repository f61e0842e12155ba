-- `raised_by`: the state is made anew.
use Rattle.tree_builder.specs.State.{raised}
use mathlib.Core.Path.{refl}
use Rattle.tree_builder.proofs.raised_by.Goals as goal

pub returns : goal.returns
unfolding raised
returns c = refl
