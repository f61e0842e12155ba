-- `token_at`: by the first byte, in the order of the definition.
use mathlib.Core.Path.{◌≡◌, sym, ◌∙◌}
use mathlib.Core.Bool.{true}
use native.Mathlib.Omega.{arith}
use borrow.Author.Tests.{ne_eqb}
use lib.ListN.{get_or}
use lib.Dec.{eqb}
use borrow.Author.Tests.{eqb-true}
use Rattle.notation.proofs.Lexing.{both_true}
use Rattle.lexer.proofs.FoundSigns.{end_found, number_begun, sign_found}
use Rattle.lexer.proofs.token_at.Goals as goal

pub returns-then-text-at : goal.returns-then-text-at
returns-then-text-at c =
    let a = c.args in
    rw c.plain.ensures (end_found a.text.now a.at a.line a.operand c.requires.1 c.requires.0 (omega arith))

pub word_token-requires : goal.word_token-requires
word_token-requires c = (omega arith, c.requires.1, sym c.is_letter.ensures ∙ c.if-is_letter.true)

pub returns-then-is_letter : goal.returns-then-is_letter
returns-then-is_letter c = c.word_token.ensures c.args.operand

pub returns-then-c-eq36 : goal.returns-then-c-eq36
returns-then-c-eq36 c = c.variable_token.ensures c.args.operand

pub number_token-requires : goal.number_token-requires
number_token-requires c = (c.requires.1, omega arith, omega arith, sym c.is_digit.ensures ∙ c.if-is_digit.true)

pub returns-then-is_digit : goal.returns-then-is_digit
returns-then-is_digit c =
    let a = c.args in
    c.number_token.ensures a.operand (number_begun a.text.now a.at a.line a.operand (omega arith) (sym c.is_digit.ensures ∙ c.if-is_digit.true))

pub minus_token-requires : goal.minus_token-requires
minus_token-requires c =
    let a = c.args in
    let both = both_true (eqb (get_or a.text.now a.at 0) 0x2d) a.operand c.if-c-operand.true in
    (omega arith, c.requires.1, eqb-true (get_or a.text.now a.at 0) 0x2d both.0)

pub returns-then-c-operand : goal.returns-then-c-operand
returns-then-c-operand c =
    let a = c.args in
    let operand : a.operand ≡ true = (both_true (eqb (get_or a.text.now a.at 0) 0x2d) a.operand c.if-c-operand.true).1 in
    rw operand c.minus_token.ensures

pub string_token-requires : goal.string_token-requires
string_token-requires c = (omega arith, c.requires.1, sym c.is_quote.ensures ∙ c.if-is_quote.true)

pub returns-then-is_quote : goal.returns-then-is_quote
returns-then-is_quote c = c.string_token.ensures c.args.operand

pub returns-then-c-eq61 : goal.returns-then-c-eq61
returns-then-c-eq61 c = c.equals_token.ensures c.args.operand

pub returns : goal.returns
returns c =
    let a = c.args in
    let b = get_or a.text.now a.at 0 in
    rw c.sign_token.ensures
    (sign_found a.text.now a.at a.line a.operand c.requires.1 (omega arith) (c.requires.2 (omega arith))
    (sym c.is_letter.ensures ∙ c.if-is_letter.false)
    (ne_eqb b 0x24 c.if-c-eq36.false)
    (sym c.is_digit.ensures ∙ c.if-is_digit.false)
    c.if-c-operand.false
    (sym c.is_quote.ensures ∙ c.if-is_quote.false)
    (ne_eqb b 0x3d c.if-c-eq61.false))
