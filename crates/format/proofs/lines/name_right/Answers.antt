-- `name_right`: by what is to be checked.
use native.Mathlib.Omega.{arith}
use Rattle.format.proofs.Line.{a_name_lem, no_name}
use Rattle.format.proofs.lines.name_right.Goals as goal

pub returns-in-1 : goal.returns-in-1
returns-in-1 c = a_name_lem _ _ _ c.in-1.is c.two_at.ensures

pub returns-in_default : goal.returns-in_default
returns-in_default c = no_name _ _ _ (λ e. absurd (omega arith))
