-- `constant`: struck out, or its label joined and its value read.
use Rattle.evaluator.proofs.Constants.{constant_struck, constant_kept}
use Rattle.evaluator.proofs.Outcomes.{value_is}
use native.Mathlib.Omega.{arith}
use Rattle.evaluator.proofs.constant.Goals as goal

pub returns-then-is_struck : goal.returns-then-is_struck
returns-then-is_struck c = constant_struck _ _ _ c.is_struck.ensures (omega arith) c.if-is_struck.true c.at.ensures

pub overflow_add-p : goal.overflow_add-p
overflow_add-p c = omega (arith, c.requires.1)

pub join-requires : goal.join-requires
join-requires c = omega arith

pub value_at-requires : goal.value_at-requires
value_at-requires c = omega (arith, c.requires.1)

pub returns : goal.returns
returns c = constant_kept _ _ _ c.is_struck.ensures _ c.if-is_struck.false c.byte_at.ensures c.one.ensures c.join.ensures c.value_at.ensures (value_is _)
