-- `offset_of`: too few bytes or too many, or the number that they spell.
use mathlib.Core.Path.{◌∙◌, ap}
use native.Mathlib.Omega.{arith}
use Rattle.input.specs.Numbers.{spelled as spelled_to}
use Rattle.input.proofs.Digits.{some_told, none_told, some_up_to, none_up_to}
use Rattle.manifest_text.proofs.FirstLine.{no_offset, long_offset, whole_offset, same_spelled}
use Rattle.manifest_text.proofs.offset_of.Goals as goal

pub returns-then-line-lt7 : goal.returns-then-line-lt7
returns-then-line-lt7 c = none_up_to _ _ (omega (arith, no_offset c.args.line.now c.if-line-lt7.true))

pub returns-then-line-gt11 : goal.returns-then-line-gt11
returns-then-line-gt11 c = none_up_to _ _ (omega (arith, long_offset c.args.line.now c.if-line-lt7.false c.if-line-gt11.true))

pub returns-in_err-number : goal.returns-in_err-number
returns-in_err-number c =
    let is = whole_offset c.args.line.now c.if-line-lt7.false c.if-line-gt11.false (ap (λ l. spelled_to 99999 l 0) c.past.ensures ∙ same_spelled _ 0) in
    rw c.from_residual.ensures (none_up_to _ _ (omega (arith, is, none_told _ c.in_err-number.ensures)))

pub returns : goal.returns
returns c =
    let told = some_told _ c.in_ok-number.ensures in
    let is = whole_offset c.args.line.now c.if-line-lt7.false c.if-line-gt11.false (ap (λ l. spelled_to 99999 l 0) c.past.ensures ∙ same_spelled _ 0) in
    some_up_to _ (told.0 ∙ is) (omega (arith, is, told))
