-- `right_boolean`: no boolean, or the value itself.
use mathlib.Core.Path.{ap}
use Rattle.values.specs.contracts.Value.{the_type}
use denote.Enum.Declared.{tag_of}
use Rattle.evaluator.proofs.Outcomes.{refusal_is, value_is}
use Rattle.evaluator.proofs.Operators.{boolean_unlike, boolean_right, unlike_boolean}
use Rattle.evaluator.proofs.right_boolean.Goals as goal

pub returns-in_default : goal.returns-in_default
returns-in_default c = boolean_unlike _ _ (unlike_boolean _ c.in_default.not-Boolean) (refusal_is c.at.ensures)

pub returns : goal.returns
returns c = boolean_right _ _ (ap (tag_of the_type) c.in-Boolean.is) (value_is _)
