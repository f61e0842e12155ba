-- `hex_value`: one test after the other, as the definition has them.
use borrow.Author.Tests.{lt-ltb, le-ltb}
use Rattle.run_cases.specs.Text.{hex_value}
use Rattle.run_cases.proofs.text.hex_value.Goals as goal

pub returns-then-b-lt48 : goal.returns-then-b-lt48
unfolding hex_value
returns-then-b-lt48 c = rw (lt-ltb _ 48 c.if-b-lt48.true)

pub returns-then-b-lt58 : goal.returns-then-b-lt58
unfolding hex_value
returns-then-b-lt58 c = rw (le-ltb _ 48 c.if-b-lt48.false, lt-ltb _ 58 c.if-b-lt58.true)

pub returns-then-b-lt97 : goal.returns-then-b-lt97
unfolding hex_value
returns-then-b-lt97 c = rw (le-ltb _ 48 c.if-b-lt48.false, le-ltb _ 58 c.if-b-lt58.false, lt-ltb _ 97 c.if-b-lt97.true)

pub returns-then-b-lt103 : goal.returns-then-b-lt103
unfolding hex_value
returns-then-b-lt103 c = rw (le-ltb _ 48 c.if-b-lt48.false, le-ltb _ 58 c.if-b-lt58.false, le-ltb _ 97 c.if-b-lt97.false, lt-ltb _ 103 c.if-b-lt103.true)

pub returns : goal.returns
unfolding hex_value
returns c = rw (le-ltb _ 48 c.if-b-lt48.false, le-ltb _ 58 c.if-b-lt58.false, le-ltb _ 97 c.if-b-lt97.false, le-ltb _ 103 c.if-b-lt103.false)
