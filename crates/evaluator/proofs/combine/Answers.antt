-- `combine`: by the operator byte.
use Rattle.evaluator.proofs.Operators.{combines_integers, combines_equal, combines_booleans}
use Rattle.evaluator.proofs.Outcomes.{value_is}
use Rattle.evaluator.proofs.combine.Goals as goal

pub returns-then-op-lt4 : goal.returns-then-op-lt4
returns-then-op-lt4 c = combines_integers _ _ _ _ _ c.if-op-lt4.true c.both_integers.ensures

pub returns-then-op-eq4 : goal.returns-then-op-eq4
returns-then-op-eq4 c = combines_equal _ _ _ _ _ c.if-op-eq4.true c.same_value.ensures (value_is _)

pub returns : goal.returns
returns c = combines_booleans _ _ _ _ _ c.if-op-lt4.false c.if-op-eq4.false c.right_boolean.ensures
