-- `put_value`: a header, then the body, for each kind of value. A signed number that a variant holds is the one that was put there.
use borrow.Author.Rules.{rules}
use mir.Val.{SFits}
use mir.ValLaws.{to_z-of_z}
use mir.Syntax.{w64}
use mathlib.Core.Path.{◌∙◌}
use Rattle.catalog.proofs.Making.{as_byte, integer_stored, string_stored, boolean_stored}
use Rattle.catalog.proofs.put_value.Goals as goal

pub returns-in-Integer : goal.returns-in-Integer
returns-in-Integer c =
    let z = c.in-Integer.z in
    let fits : SFits w64 z = search rules in
    integer_stored c.args.rest.now c.args.at z c.in-Integer.is (to_z-of_z w64 z fits) c.put_header.ensures c.put_signed.ensures

pub returns-in-String : goal.returns-in-String
returns-in-String c =
    let a = c.args in
    string_stored a.rest.now a.at c.in-String.n c.in-String.is c.put_header-in-String.ensures c.put_two.ensures

pub returns-in-Boolean : goal.returns-in-Boolean
returns-in-Boolean c =
    let a = c.args in
    boolean_stored a.rest.now a.at c.in-Boolean.b c.from.result c.in-Boolean.is (c.from.ensures ∙ as_byte c.in-Boolean.b) c.put_header-in-Boolean.ensures c.put_byte.ensures
