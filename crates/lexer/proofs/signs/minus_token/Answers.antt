-- `minus_token`: by the byte behind.
use Prim.Native.Nat.{◌+◌}
use mathlib.Core.Path.{◌≡◌, sym, ap, ◌∙◌}
use mathlib.Core.Bool.{true, false}
use native.Mathlib.Omega.{arith}
use lib.ListN.{get_or}
use Rattle.notation.specs.Lexing.{is_digit}
use Rattle.lexer.proofs.FoundSigns.{digit_stands, minus_number, minus_found}
use Rattle.lexer.proofs.signs.minus_token.Goals as goal

pub number_token-requires : goal.number_token-requires
number_token-requires c =
    let a = c.args in
    let digit : is_digit (get_or a.text.now (a.start + 1) 0) ≡ true = ap is_digit (sym c.byte_at.ensures) ∙ sym c.is_digit.ensures ∙ c.if-is_digit.true in
    (c.requires.1, omega arith, digit_stands a.text.now (a.start + 1) digit, digit)

pub returns-then-is_digit : goal.returns-then-is_digit
returns-then-is_digit c =
    let a = c.args in
    let digit : is_digit (get_or a.text.now (a.start + 1) 0) ≡ true = ap is_digit (sym c.byte_at.ensures) ∙ sym c.is_digit.ensures ∙ c.if-is_digit.true in
    c.number_token.ensures true (minus_number a.text.now a.start a.line c.requires.1 c.requires.0 c.requires.2 digit)

pub returns : goal.returns
returns c =
    let a = c.args in
    let other : is_digit (get_or a.text.now (a.start + 1) 0) ≡ false = ap is_digit (sym c.byte_at.ensures) ∙ sym c.is_digit.ensures ∙ c.if-is_digit.false in
    rw c.plain.ensures (minus_found a.text.now a.start a.line c.requires.1 c.requires.0 c.requires.2 other)
