-- `begin_integer`: by the kind of the value.
use mathlib.Core.Path.{ap}
use Rattle.values.specs.contracts.Value.{the_type}
use denote.Enum.Declared.{tag_of}
use Rattle.evaluator.proofs.Operators.{integer_not, integer_open, unlike_integer}
use Rattle.evaluator.proofs.begin_integer.Goals as goal

pub returns-in_default : goal.returns-in_default
returns-in_default c = integer_not _ (unlike_integer _ c.in_default.not-Integer)

pub returns : goal.returns
returns c = integer_open _ (ap (tag_of the_type) c.in-Integer.is)
