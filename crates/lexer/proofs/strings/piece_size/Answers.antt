-- `piece_size`: by the byte and the one behind it.
use Prim.Native.Nat.{◌+◌}
use mathlib.Core.Path.{◌≡◌, sym, ◌∙◌}
use mathlib.Core.Bool.{true, false}
use borrow.Author.Tests.{ne_eqb, eq-eqb}
use lib.ListN.{get_or}
use Rattle.lexer.specs.Strings.{escape_at}
use Rattle.lexer.proofs.strings.piece_size.Goals as goal

pub returns-then-text-at-ne92 : goal.returns-then-text-at-ne92
returns-then-text-at-ne92 c =
    let a = c.args in
    rw (ne_eqb (get_or a.text.now a.at 0) 0x5c c.if-text-at-ne92.true)

pub returns-then-escape_at : goal.returns-then-escape_at
returns-then-escape_at c =
    let a = c.args in
    let letter : escape_at a.text.now (a.at + 1) ≡ true = sym c.escape_at.ensures ∙ c.if-escape_at.true in
    rw (eq-eqb (get_or a.text.now a.at 0) 0x5c c.if-text-at-ne92.false, letter)

pub returns : goal.returns
returns c =
    let a = c.args in
    let letter : escape_at a.text.now (a.at + 1) ≡ false = sym c.escape_at.ensures ∙ c.if-escape_at.false in
    rw (eq-eqb (get_or a.text.now a.at 0) 0x5c c.if-text-at-ne92.false, letter)
