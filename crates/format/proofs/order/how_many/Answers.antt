-- `how_many`: the sum that its definition has.
use mathlib.Core.Path.{refl}
use Rattle.format.specs.Numbers.{how_many}
use Rattle.format.proofs.order.how_many.Goals as goal

pub returns : goal.returns
unfolding how_many
returns c = refl
