-- `begin`: by the operator byte.
use Rattle.evaluator.proofs.Operators.{begins_integer, begins_equal, begins_boolean}
use Rattle.evaluator.proofs.begin.Goals as goal

pub returns-then-op-lt4 : goal.returns-then-op-lt4
returns-then-op-lt4 c = begins_integer _ _ c.if-op-lt4.true c.begin_integer.ensures

pub returns-then-op-eq4 : goal.returns-then-op-eq4
returns-then-op-eq4 c = begins_equal _ _ c.if-op-eq4.true

pub returns : goal.returns
returns c = begins_boolean _ _ c.if-op-lt4.false c.if-op-eq4.false c.begin_boolean.ensures
