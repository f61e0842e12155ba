-- `write_constant`: by the tag.
use native.Mathlib.Omega.{arith}
use mir.Syntax.{w64}
use mir.ValLaws.{to_z-of_z}
use Rattle.statement_printer.proofs.ConstantTokens.{boolean_range, integer_passes, text_passes, boolean_passes}
use Rattle.statement_printer.proofs.constants.write_constant.Goals as goal

pub write_mark-requires : goal.write_mark-requires
write_mark-requires c = boolean_range _ c.boolean_kind.ensures

pub returns-in-16 : goal.returns-in-16
returns-in-16 c = integer_passes _ _ _ c.byte_at-label.ensures c.byte_at.ensures c.in-16.is (to_z-of_z w64 c.signed_at.result (record { sfits = c.signed_at.type_inv })) c.signed_at.ensures c.write_number.ensures

pub returns-in-17 : goal.returns-in-17
returns-in-17 c = text_passes _ _ _ c.byte_at-label.ensures c.byte_at.ensures c.in-17.is c.two_at.ensures c.write_text.ensures

pub returns-in_default : goal.returns-in_default
returns-in_default c = boolean_passes _ _ _ c.byte_at-label.ensures c.byte_at.ensures (λ e. absurd (omega arith)) (λ e. absurd (omega arith)) c.byte_at-in_default.ensures c.boolean_kind.ensures c.write_mark.ensures
