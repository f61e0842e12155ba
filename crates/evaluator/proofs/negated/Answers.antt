-- `negated`: no boolean, or its opposite.
use Rattle.evaluator.proofs.Outcomes.{refusal_is, value_is}
use Rattle.evaluator.proofs.Operators.{negates_unlike, negates, unlike_boolean}
use Rattle.evaluator.proofs.negated.Goals as goal

pub returns-in_default : goal.returns-in_default
returns-in_default c = negates_unlike _ _ (unlike_boolean _ c.in_default.not-Boolean) (refusal_is c.at.ensures)

pub returns : goal.returns
returns c = negates _ _ c.in-Boolean.is (value_is _)
