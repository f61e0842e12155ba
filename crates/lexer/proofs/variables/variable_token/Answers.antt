-- `variable_token`: by the byte behind the $.
use mathlib.Core.Path.{sym, ◌∙◌}
use native.Mathlib.Omega.{arith}
use borrow.Author.Tests.{ne_eqb}
use Rattle.lexer.proofs.FoundNames.{dollar_alone}
use Rattle.lexer.proofs.variables.variable_token.Goals as goal

pub returns-then-text-from : goal.returns-then-text-from
returns-then-text-from c =
    let a = c.args in
    λ o. rw c.plain.ensures (dollar_alone a.text.now a.start a.line o c.requires.1 c.requires.0 c.requires.2 (λ h. absurd (omega arith)))

pub simple_variable-requires : goal.simple_variable-requires
simple_variable-requires c =
    (omega arith, c.requires.1, c.requires.2, sym c.is_letter.ensures ∙ c.if-is_letter.true)

pub returns : goal.returns
returns c =
    let a = c.args in
    λ o. rw c.plain-2.ensures (dollar_alone a.text.now a.start a.line o c.requires.1 c.requires.0 c.requires.2 (λ h. (sym c.is_letter.ensures ∙ c.if-is_letter.false, ne_eqb _ 0x3a c.if-c-eq58.false)))
