-- `Labels::union` is the union of the words.
use mathlib.Core.Path.{refl}
use Rattle.labels.specs.Sets.{◌∪◌}
use Rattle.labels.proofs.Labels.union.Goals as goal

pub returns : goal.returns
unfolding ◌∪◌
returns c = refl
