-- `value_at`: by the tag. A signed number that goes into a variant is the one that was read.
use native.Mathlib.Omega.{arith}
use Rattle.evaluator.proofs.Constants.{integer_read, string_read, boolean_read}
use mir.Syntax.{w64}
use mir.ValLaws.{to_z-of_z}
use Rattle.evaluator.proofs.value_at.Goals as goal

pub returns-in-16 : goal.returns-in-16
returns-in-16 c = integer_read _ _ c.byte_at.ensures c.in-16.is (to_z-of_z w64 c.signed_at.result (record { sfits = c.signed_at.type_inv })) c.signed_at.ensures

pub returns-in-17 : goal.returns-in-17
returns-in-17 c = string_read _ _ c.byte_at.ensures c.in-17.is c.two_at.ensures

pub returns-in_default : goal.returns-in_default
returns-in_default c = boolean_read _ _ c.byte_at.ensures (omega arith) (omega arith) c.byte_at-in_default.ensures
