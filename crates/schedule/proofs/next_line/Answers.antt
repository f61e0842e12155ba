-- `next_line`: by what stands at the position.
use mathlib.Core.Path.{◌≡◌, refl, sym, ◌∙◌}
use native.Mathlib.Omega.{arith}
use Rattle.std.specs.Prelude.{Err}
use Rattle.schedule.proofs.Lines.{line_written, line_too_long, attribute_shown, resource_shown, end_shown, unreadable_shown, attribute_told, none_told}
use Rattle.schedule.proofs.next_line.Goals as goal

pub attribute_line-written-requires : goal.attribute_line-written-requires
attribute_line-written-requires c =
    let t = attribute_told _ _ _ (sym c.subject_at.ensures ∙ c.in-AnAttribute.is) in
    (omega (arith, t.short, t.entry), omega (arith, t.short, t.attribute))

pub resource_line-written-requires : goal.resource_line-written-requires
resource_line-written-requires c =
    let t = none_told _ _ _ (sym c.subject_at.ensures ∙ c.in-NoAttributes.is) in
    omega (arith, t.short, t.entry)

pub returns-in_ok-length-in-AnAttribute : goal.returns-in_ok-length-in-AnAttribute
returns-in_ok-length-in-AnAttribute c =
    attribute_shown _ _ _ _ c.subject_at.ensures _ (line_written _ _ c.ok_or.ensures.value c.in_ok-length-in-AnAttribute.was) c.in-AnAttribute.is c.attribute_line-written.ensures

pub returns-in_err-length-in-AnAttribute : goal.returns-in_err-length-in-AnAttribute
returns-in_err-length-in-AnAttribute c =
    let handed_on : c.from_residual.result ≡ Err c.in_err-length-in-AnAttribute.field-0.0 = grind arith in
    attribute_shown _ _ _ _ c.subject_at.ensures _ (handed_on ∙ line_too_long _ _ c.ok_or.ensures.value c.in_err-length-in-AnAttribute.was) c.in-AnAttribute.is c.attribute_line-written.ensures

pub returns-in_ok-length-in-NoAttributes : goal.returns-in_ok-length-in-NoAttributes
returns-in_ok-length-in-NoAttributes c =
    resource_shown _ _ _ _ c.subject_at.ensures _ (line_written _ _ c.ok_or-in-NoAttributes.ensures.value c.in_ok-length-in-NoAttributes.was) c.in-NoAttributes.is c.resource_line-written.ensures

pub returns-in_err-length-in-NoAttributes : goal.returns-in_err-length-in-NoAttributes
returns-in_err-length-in-NoAttributes c =
    let handed_on : c.from_residual-in_err-length-in-NoAttributes.result ≡ Err c.in_err-length-in-NoAttributes.field-0.0 = grind arith in
    resource_shown _ _ _ _ c.subject_at.ensures _ (handed_on ∙ line_too_long _ _ c.ok_or-in-NoAttributes.ensures.value c.in_err-length-in-NoAttributes.was) c.in-NoAttributes.is c.resource_line-written.ensures

pub returns-in-End : goal.returns-in-End
returns-in-End c = end_shown _ _ _ _ c.subject_at.ensures _ c.clear_rest.ensures refl c.in-End.is

pub returns-in-NotACatalog : goal.returns-in-NotACatalog
returns-in-NotACatalog c = unreadable_shown _ _ _ _ c.subject_at.ensures _ c.clear_rest-in-NotACatalog.ensures refl c.in-NotACatalog.is
