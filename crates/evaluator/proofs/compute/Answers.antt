-- `compute`: by the operator byte.
use native.Mathlib.Omega.{arith}
use mir.Syntax.{w64}
use mir.ValLaws.{to_z-of_z}
use Rattle.evaluator.proofs.Operators.{computes_sum, computes_difference, computes_quotient}
use Rattle.evaluator.proofs.compute.Goals as goal

pub returns-in-0 : goal.returns-in-0
returns-in-0 c = computes_sum _ _ _ (to_z-of_z w64 _ c.ranges.i) (to_z-of_z w64 _ c.ranges.j) c.in-0.is c.sum.ensures

pub returns-in-1 : goal.returns-in-1
returns-in-1 c = computes_difference _ _ _ (to_z-of_z w64 _ c.ranges.i) (to_z-of_z w64 _ c.ranges.j) c.in-1.is c.difference.ensures

pub returns-in_default : goal.returns-in_default
returns-in_default c = computes_quotient _ _ _ (to_z-of_z w64 _ c.ranges.i) (to_z-of_z w64 _ c.ranges.j) c.requires (omega arith) (omega arith) c.quotient.ensures
