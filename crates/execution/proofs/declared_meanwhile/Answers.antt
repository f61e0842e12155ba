-- `declared_meanwhile`: by the flag.
use mathlib.Core.Path.{ap}
use mathlib.Core.Path.{refl}
use Rattle.execution.proofs.declared_meanwhile.Goals as goal
use Rattle.std.specs.Prelude.{Err}

pub at-requires : goal.at-requires
at-requires c = c.requires

pub returns-then-again : goal.returns-then-again
returns-then-again c = rw c.if-again.true (ap Err c.at.ensures)

pub returns-else-again : goal.returns-else-again
returns-else-again c = rw c.if-again.false refl
