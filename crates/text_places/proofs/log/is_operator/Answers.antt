-- `is_operator`: as it is defined.
use mathlib.Core.Path.{refl}
use Rattle.text_places.specs.Log.{is_operator}
use Rattle.text_places.proofs.log.is_operator.Goals as goal

pub returns : goal.returns
unfolding is_operator
returns c = refl
