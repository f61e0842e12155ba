-- `both_integers`: the left value is no integer, the right one is none, a comparison, or arithmetic.
use Rattle.evaluator.proofs.Outcomes.{refusal_is, value_is}
use mir.Syntax.{w64}
use mir.ValLaws.{to_z-of_z}
use Rattle.evaluator.proofs.Operators.{left_unlike, right_unlike, both_greater, both_computed, unlike_integer}
use native.Mathlib.Omega.{arith}
use Rattle.evaluator.proofs.both_integers.Goals as goal

pub returns-in_default : goal.returns-in_default
returns-in_default c = left_unlike _ _ _ _ _ (unlike_integer _ c.in_default.not-Integer) (refusal_is c.at.ensures)

pub returns-in_default-y : goal.returns-in_default-y
returns-in_default-y c = right_unlike _ _ _ _ _ c.in-Integer.is (unlike_integer _ c.in_default-y.not-Integer) (refusal_is c.at-in_default-y.ensures)

pub returns-then-op-eq3 : goal.returns-then-op-eq3
returns-then-op-eq3 c = both_greater _ _ _ _ _ c.in-Integer.is c.in-Integer-y.is (to_z-of_z w64 _ (record { sfits = omega arith })) (to_z-of_z w64 _ (record { sfits = omega arith })) c.if-op-eq3.true c.is_greater.ensures (value_is _)

pub returns : goal.returns
returns c = both_computed _ _ _ _ _ c.compute.result c.in-Integer.is c.in-Integer-y.is (to_z-of_z w64 _ (record { sfits = omega arith })) (to_z-of_z w64 _ (record { sfits = omega arith })) c.compute.ensures c.computed_at.ensures
