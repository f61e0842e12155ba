-- `sign_kind`: by the byte.
use native.Mathlib.Omega.{arith}
use borrow.Author.Tests.{ne_eqb}
use Rattle.lexer.proofs.signs.sign_kind.Goals as goal

pub returns-in-123 : goal.returns-in-123
returns-in-123 c = rw c.in-123.is

pub returns-in-125 : goal.returns-in-125
returns-in-125 c = rw c.in-125.is

pub returns-in-40 : goal.returns-in-40
returns-in-40 c = rw c.in-40.is

pub returns-in-41 : goal.returns-in-41
returns-in-41 c = rw c.in-41.is

pub returns-in-91 : goal.returns-in-91
returns-in-91 c = rw c.in-91.is

pub returns-in-93 : goal.returns-in-93
returns-in-93 c = rw c.in-93.is

pub returns-in-58 : goal.returns-in-58
returns-in-58 c = rw c.in-58.is

pub returns-in-44 : goal.returns-in-44
returns-in-44 c = rw c.in-44.is

pub returns-in-43 : goal.returns-in-43
returns-in-43 c = rw c.in-43.is

pub returns-in-45 : goal.returns-in-45
returns-in-45 c = rw c.in-45.is

pub returns-in-47 : goal.returns-in-47
returns-in-47 c = rw c.in-47.is

pub returns-in-62 : goal.returns-in-62
returns-in-62 c = rw c.in-62.is

pub returns-in-33 : goal.returns-in-33
returns-in-33 c = rw c.in-33.is

pub returns-in-63 : goal.returns-in-63
returns-in-63 c = rw c.in-63.is

pub returns-in_default : goal.returns-in_default
returns-in_default c =
    rw (ne_eqb c.args.c 0x7b (omega arith), ne_eqb c.args.c 0x7d (omega arith), ne_eqb c.args.c 0x28 (omega arith), ne_eqb c.args.c 0x29 (omega arith), ne_eqb c.args.c 0x5b (omega arith), ne_eqb c.args.c 0x5d (omega arith), ne_eqb c.args.c 0x3a (omega arith), ne_eqb c.args.c 0x2c (omega arith), ne_eqb c.args.c 0x2b (omega arith), ne_eqb c.args.c 0x2d (omega arith), ne_eqb c.args.c 0x2f (omega arith), ne_eqb c.args.c 0x3e (omega arith), ne_eqb c.args.c 0x21 (omega arith), ne_eqb c.args.c 0x3f (omega arith))
