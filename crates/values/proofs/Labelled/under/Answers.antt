-- `Labelled::under`: the sets joined.
use mathlib.Core.Path.{ap}
use Rattle.labels.specs.declared.Labels.{Labels}
use Rattle.values.specs.declared.Labelled.{Labelled}
use Rattle.values.specs.declared.Value.{Value}
use Rattle.values.proofs.Labelled.under.Goals as goal

with_labels : Value → Labels → Labelled
with_labels v k = record { value = v; labels = k }

pub returns : goal.returns
unfolding with_labels
returns c = ap (with_labels _) c.union.ensures
