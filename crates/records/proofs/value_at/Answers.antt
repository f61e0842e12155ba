-- `value_at`: one way for each kind of value.
use mathlib.Core.Path.{◌∙◌}
use mir.Syntax.{w64}
use mir.Facts.{to_z-of_z}
use Rattle.records.proofs.Ways.{value_integer, value_string, value_boolean}
use Rattle.records.proofs.value_at.Goals as goal

pub returns-then-kind-eq2 : goal.returns-then-kind-eq2
returns-then-kind-eq2 c = value_integer _ _ _ c.if-kind-eq2.true (to_z-of_z {w = w64} (record { sfits = c.signed_in.type_inv }) ∙ c.signed_in.ensures)

pub returns-then-kind-eq3 : goal.returns-then-kind-eq3
returns-then-kind-eq3 c = value_string _ _ _ c.if-kind-eq2.false c.number_in-payload.ensures c.if-kind-eq3.true

pub returns : goal.returns
returns c = value_boolean _ _ _ c.if-kind-eq2.false c.number_in-payload.ensures c.if-kind-eq3.false
