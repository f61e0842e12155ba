-- `line_behind`: by the test.
use native.Mathlib.Numerals.{add-one}
use borrow.Author.Tests.{ne_eqb}
use Rattle.lexer.proofs.bytes.line_behind.Goals as goal

pub returns-then-c-eq10 : goal.returns-then-c-eq10
returns-then-c-eq10 c = rw (c.if-c-eq10.true, add-one)

pub returns : goal.returns
returns c = rw (ne_eqb c.args.c 0x0a c.if-c-eq10.false)
