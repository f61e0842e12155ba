-- `hex_digit`: a figure or a letter.
use borrow.Author.Tests.{lt-ltb, le-ltb}
use Rattle.run_cases.specs.Text.{hex_digit}
use Rattle.run_cases.proofs.text.hex_digit.Goals as goal

pub returns-then-value-lt10 : goal.returns-then-value-lt10
unfolding hex_digit
returns-then-value-lt10 c = rw (lt-ltb _ 10 c.if-value-lt10.true)

pub returns-else-value-lt10 : goal.returns-else-value-lt10
unfolding hex_digit
returns-else-value-lt10 c = rw (le-ltb _ 10 c.if-value-lt10.false)
