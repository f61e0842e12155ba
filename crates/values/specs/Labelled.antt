-- A value with its set.
use Rattle.labels.specs.declared.Labels.{Labels}
use Rattle.labels.specs.Sets.{◌∪◌}
use Rattle.values.specs.declared.Labelled.{Labelled}

-- labels added to the set of a value: a set grows here and nowhere else
abbrev pub under : Labels → Labelled → Labelled
under set x = record { value = x.value; labels = set ∪ x.labels }
