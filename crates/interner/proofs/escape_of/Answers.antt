-- `escape_of`: n is a line feed, another byte itself.
use borrow.Author.Tests.{eq-eqb, ne_eqb}
use Rattle.interner.proofs.escape_of.Goals as goal

pub returns-then-c-eq110 : goal.returns-then-c-eq110
returns-then-c-eq110 c = rw (eq-eqb _ _ c.if-c-eq110.true)

pub returns-else-c-eq110 : goal.returns-else-c-eq110
returns-else-c-eq110 c = rw (ne_eqb _ _ c.if-c-eq110.false)
