use Rattle.evaluator.proofs.Operators.{unlike_boolean}
use native.Mathlib.Omega.{arith}
use Rattle.statements.proofs.Conditions.{if_after, if_unlike, if_stopped, if_entered}
use Rattle.statements.proofs.decide_if.Goals as goal

pub returns-in_default : goal.returns-in_default
returns-in_default c = if_unlike _ _ _ _ _ _ _ _ (unlike_boolean _ c.in_default.not-Boolean) c.at.ensures

pub returns-in_err-enter_condition : goal.returns-in_err-enter_condition
returns-in_err-enter_condition c = if_stopped _ _ _ _ _ _ _ _ _ c.in-Boolean.is c.condition_set-set.ensures (if_after _ c.requires.0.stands c.requires.1 c.enter_condition.ensures) _ (grind arith) c.in_err-enter_condition.was

pub returns : goal.returns
returns c = if_entered _ _ _ _ _ _ _ _ _ c.in-Boolean.is c.condition_set-set.ensures (if_after _ c.requires.0.stands c.requires.1 c.enter_condition.ensures) c.in_ok-enter_condition.was
