-- `value_right`: by the tag.
use native.Mathlib.Omega.{arith}
use Rattle.schedule.proofs.Tests.{integer_size, string_size, boolean_size, no_value}
use Rattle.schedule.proofs.subjects.value_right.Goals as goal

pub returns-in-66 : goal.returns-in-66
returns-in-66 c = integer_size _ _ c.in-66.is

pub returns-in-67 : goal.returns-in-67
returns-in-67 c = string_size _ _ c.in-67.is

pub returns-in-68 : goal.returns-in-68
returns-in-68 c = boolean_size _ _ c.in-68.is

pub returns-in_default : goal.returns-in_default
returns-in_default c = no_value _ _ (λ e. absurd (omega arith)) (λ e. absurd (omega arith)) (λ e. absurd (omega arith))
