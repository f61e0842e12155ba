-- `computed_at`: by what the operation answered.
use native.Mathlib.Omega.{arith}
use Rattle.evaluator.proofs.Outcomes.{refusal_is, value_is}
use mir.Syntax.{w64}
use mir.ValLaws.{to_z-of_z}
use Rattle.evaluator.proofs.Operators.{computed_whole, computed_large, computed_by_zero}
use Rattle.evaluator.proofs.computed_at.Goals as goal

pub returns-in-Ok : goal.returns-in-Ok
returns-in-Ok c = computed_whole _ c.in-Ok.is (to_z-of_z w64 _ (record { sfits = omega arith })) (value_is _)

pub returns-in-Err-Overflow : goal.returns-in-Err-Overflow
returns-in-Err-Overflow c = computed_large _ (grind arith) (refusal_is c.at.ensures)

pub returns-in-Err-DivisionByZero : goal.returns-in-Err-DivisionByZero
returns-in-Err-DivisionByZero c = computed_by_zero _ (grind arith) (refusal_is c.at-in-Err-DivisionByZero.ensures)
