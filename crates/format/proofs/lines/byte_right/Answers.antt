-- `byte_right`: by what the byte may be.
use native.Mathlib.Omega.{arith}
use Rattle.format.proofs.Line.{a_boolean_lem, an_operator_lem, any_piece}
use Rattle.format.proofs.lines.byte_right.Goals as goal

pub returns-in-1 : goal.returns-in-1
returns-in-1 c = a_boolean_lem _ _ c.in-1.is c.byte_at.ensures

pub returns-in-2 : goal.returns-in-2
returns-in-2 c = an_operator_lem _ _ c.in-2.is c.byte_at-in-2.ensures

pub returns-in_default : goal.returns-in_default
returns-in_default c = any_piece _ _ (λ e. absurd (omega arith)) (λ e. absurd (omega arith))
