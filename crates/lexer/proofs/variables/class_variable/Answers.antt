-- `class_variable`: by what follows the colons, and by the two names.
use Prim.Native.Nat.{◌+◌}
use mathlib.Core.Path.{refl, sym, ◌∙◌}
use native.Mathlib.Omega.{arith}
use Rattle.lexer.proofs.Ends.{with_letter}
use Rattle.lexer.proofs.FoundQualified.{class_faulty, class_no_name, variable_no_name, class_found}
use Rattle.lexer.proofs.variables.class_variable.Goals as goal

pub returns-then-text-from : goal.returns-then-text-from
returns-then-text-from c =
    let a = c.args in
    λ o. rw c.plain.ensures (class_faulty a.text.now a.start a.line a.colons c.requires.0 c.requires.1 o (λ h. absurd (omega arith)))

pub returns-then-not-is_letter : goal.returns-then-not-is_letter
returns-then-not-is_letter c =
    let a = c.args in
    λ o. rw c.plain-then-not-is_letter.ensures (class_faulty a.text.now a.start a.line a.colons c.requires.0 c.requires.1 o (λ h. sym c.is_letter.ensures ∙ c.if-not-is_letter.true))

pub returns-then-not-is_name : goal.returns-then-not-is_name
returns-then-not-is_name c =
    let a = c.args in
    let letter = sym c.is_letter.ensures ∙ c.if-not-is_letter.false in
    λ o. rw c.plain-then-not-is_name.ensures (class_no_name a.text.now a.start a.line a.colons c.requires.0 c.requires.1 o c.word_end-end.result letter c.word_end-end.ensures (sym c.is_name.ensures ∙ c.if-not-is_name.true))

pub is_name-requires-2 : goal.is_name-requires-2
is_name-requires-2 c =
    let a = c.args in
    let letter = sym c.is_letter.ensures ∙ c.if-not-is_letter.false in
    with_letter a.text.now (a.colons + 2) (a.colons + 2 + 1) c.word_end-end.result refl letter c.word_end-end.ensures

pub returns-then-not-is_name-2 : goal.returns-then-not-is_name-2
returns-then-not-is_name-2 c =
    let a = c.args in
    let letter = sym c.is_letter.ensures ∙ c.if-not-is_letter.false in
    let named = sym c.is_name.ensures ∙ c.if-not-is_name.false in
    λ o. rw c.plain-then-not-is_name-2.ensures (variable_no_name a.text.now a.start a.line a.colons c.requires.0 c.requires.1 o c.word_end-end.result letter c.word_end-end.ensures named (sym c.is_name-2.ensures ∙ c.if-not-is_name-2.true))

pub returns : goal.returns
returns c =
    let a = c.args in
    let letter = sym c.is_letter.ensures ∙ c.if-not-is_letter.false in
    let named = sym c.is_name.ensures ∙ c.if-not-is_name.false in
    λ o. class_found a.text.now a.start a.line a.colons c.requires.0 c.requires.1 o c.word_end-end.result letter c.word_end-end.ensures named (sym c.is_name-2.ensures ∙ c.if-not-is_name-2.false)
