-- `value_at`: by the tag. A signed number that goes into a variant is the one that was read.
use mir.ValLaws.{to_z-of_z}
use mir.Syntax.{w64}
use native.Mathlib.Omega.{arith}
use Rattle.catalog.proofs.Entries.{integer_read, string_read, boolean_read}
use Rattle.catalog.proofs.value_at.Goals as goal

pub returns-in-66 : goal.returns-in-66
returns-in-66 c =
    let a = c.args in
    integer_read a.out.now a.at c.byte_at.ensures c.in-66.is (to_z-of_z w64 c.signed_at.result (record { sfits = c.signed_at.type_inv })) c.signed_at.ensures

pub returns-in-67 : goal.returns-in-67
returns-in-67 c =
    let a = c.args in
    string_read a.out.now a.at c.byte_at.ensures c.in-67.is c.two_at.ensures

pub returns-in_default : goal.returns-in_default
returns-in_default c =
    let a = c.args in
    boolean_read a.out.now a.at c.byte_at.ensures (λ e. absurd (omega arith)) (λ e. absurd (omega arith)) c.byte_at-in_default.ensures
