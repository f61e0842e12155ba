-- `type_right`: a built-in resource, a defined one, or neither.
use native.Mathlib.Omega.{arith}
use Rattle.printable.proofs.OneField.{type_built_in, type_defined, no_type}
use Rattle.printable.proofs.fields.type_right.Goals as goal

pub returns-in-37 : goal.returns-in-37
returns-in-37 c = type_built_in _ _ _ _ _ c.in-37.is c.two_at.ensures c.is_built_in_type.ensures

pub returns-in-39 : goal.returns-in-39
returns-in-39 c = type_defined _ _ _ _ _ c.in-39.is c.two_at-in-39.ensures c.is_built_in_type-in-39.ensures

pub returns-in_default : goal.returns-in_default
returns-in_default c = let a = c.args in no_type _ _ a.m.bytes.now a.p _ (λ e. absurd (omega arith)) (λ e. absurd (omega arith))
