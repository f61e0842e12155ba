-- The range of a value, which its type has in code.
use mathlib.Core.List.{List}
use denote.Enum.Declared.{row}
use denote.Laws.{Is}
use mir.Val.{Val}
use Rattle.values.specs.contracts.Value.{the_type}
use Rattle.values.specs.declared.Value.{Value}
use Rattle.values.specs.declared.Value.TheVariants.{Integer, String, Boolean}
use Rattle.records.proofs.Values.{Ranged, ranged_integer, ranged_string, ranged_boolean}

pub value_ranged : (v : Value) (vs : List Val) → Is (row the_type) v vs → Ranged v
value_ranged (Integer z) vs p = ranged_integer p.1.1.1.1.0.1
value_ranged (String n) vs p = ranged_string p.1.1.1.1.0.1
value_ranged (Boolean b) vs p = ranged_boolean
