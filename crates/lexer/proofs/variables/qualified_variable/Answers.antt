-- `qualified_variable`: by what follows the first colon.
use Prim.Native.Nat.{◌+◌}
use mathlib.Core.Path.{sym, ◌∙◌}
use native.Mathlib.Omega.{arith}
use Rattle.lexer.proofs.Ends.{with_letter}
use Rattle.lexer.proofs.FoundQualified.{top_faulty, top_read, top_no_name, top_found}
use Rattle.lexer.proofs.variables.qualified_variable.Goals as goal

pub returns-then-text-start-le3 : goal.returns-then-text-start-le3
returns-then-text-start-le3 c =
    let a = c.args in
    λ o. rw c.plain.ensures (top_faulty a.text.now a.start a.line o c.requires.0 c.requires.2 c.requires.3 c.requires.1 (λ h e. absurd (omega arith)))

pub returns-then-text-start-ne58 : goal.returns-then-text-start-ne58
returns-then-text-start-ne58 c =
    let a = c.args in
    λ o. rw c.plain-then-text-start-ne58.ensures (top_faulty a.text.now a.start a.line o c.requires.0 c.requires.2 c.requires.3 c.requires.1 (λ h e. absurd (c.if-text-start-ne58.true e)))

pub returns-then-not-is_letter : goal.returns-then-not-is_letter
returns-then-not-is_letter c =
    let a = c.args in
    λ o. rw c.plain-then-not-is_letter.ensures (top_faulty a.text.now a.start a.line o c.requires.0 c.requires.2 c.requires.3 c.requires.1 (λ h e. sym c.is_letter.ensures ∙ c.if-not-is_letter.true))

pub class_variable-requires : goal.class_variable-requires
class_variable-requires c =
    let a = c.args in
    let letter = sym c.is_letter.ensures ∙ c.if-not-is_letter.false in
    (top_read a.text.now a.start a.line c.word_end-end.result c.requires.1 c.requires.2 c.requires.3 c.if-text-start-ne58.false letter c.word_end-end.ensures, sym c.two_colons.ensures ∙ c.if-two_colons.true)

pub is_name-requires : goal.is_name-requires
is_name-requires c =
    let a = c.args in
    let letter = sym c.is_letter.ensures ∙ c.if-not-is_letter.false in
    with_letter a.text.now (a.start + 3) (a.start + 4) c.word_end-end.result (omega arith) letter c.word_end-end.ensures

pub returns-then-not-is_name : goal.returns-then-not-is_name
returns-then-not-is_name c =
    let a = c.args in
    let letter = sym c.is_letter.ensures ∙ c.if-not-is_letter.false in
    let e = c.word_end-end in
    let top = top_read a.text.now a.start a.line e.result c.requires.1 c.requires.2 c.requires.3 c.if-text-start-ne58.false letter e.ensures in
    λ o. rw c.plain-then-not-is_name.ensures (top_no_name a.text.now a.start a.line e.result top o (sym c.two_colons.ensures ∙ c.if-two_colons.false) (sym c.is_name.ensures ∙ c.if-not-is_name.true))

pub returns : goal.returns
returns c =
    let a = c.args in
    let letter = sym c.is_letter.ensures ∙ c.if-not-is_letter.false in
    let e = c.word_end-end in
    let top = top_read a.text.now a.start a.line e.result c.requires.1 c.requires.2 c.requires.3 c.if-text-start-ne58.false letter e.ensures in
    λ o. rw c.plain-2.ensures (top_found a.text.now a.start a.line e.result top o (sym c.two_colons.ensures ∙ c.if-two_colons.false) (sym c.is_name.ensures ∙ c.if-not-is_name.false))
