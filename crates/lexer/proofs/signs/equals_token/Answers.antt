-- `equals_token`: by the byte behind.
use Prim.Native.Nat.{◌+◌}
use mathlib.Core.Path.{sym, ◌∙◌}
use borrow.Author.Tests.{ne_eqb}
use lib.ListN.{get_or}
use Rattle.lexer.proofs.FoundSigns.{two_equals_found, arrow_found, equals_found}
use Rattle.lexer.proofs.signs.equals_token.Goals as goal

pub returns-then-c-eq61 : goal.returns-then-c-eq61
returns-then-c-eq61 c =
    let a = c.args in
    λ o. rw c.plain.ensures (two_equals_found a.text.now a.start a.line o c.requires.1 c.requires.0 c.requires.2 (sym c.byte_at-c.ensures ∙ c.if-c-eq61.true))

pub returns-then-c-eq62 : goal.returns-then-c-eq62
returns-then-c-eq62 c =
    let a = c.args in
    λ o. rw c.plain-then-c-eq62.ensures (arrow_found a.text.now a.start a.line o c.requires.1 c.requires.0 c.requires.2 (sym c.byte_at-c.ensures ∙ c.if-c-eq62.true))

pub returns : goal.returns
returns c =
    let a = c.args in
    let b = c.byte_at-c in
    let next = get_or a.text.now (a.start + 1) 0 in
    λ o. rw c.plain-2.ensures (equals_found a.text.now a.start a.line o c.requires.1 c.requires.0 c.requires.2 (ne_eqb next 0x3d (λ e. c.if-c-eq61.false (b.ensures ∙ e))) (ne_eqb next 0x3e (λ e. c.if-c-eq62.false (b.ensures ∙ e))))
