-- `title`: no number or one past the table, or one more than the number.
use native.Mathlib.Omega.{arith}
use Rattle.memory.proofs.Titles.{title_none, title_past, title_some}
use Rattle.memory.proofs.title.Goals as goal

pub returns-in-1-to-1024 : goal.returns-in-1-to-1024
returns-in-1-to-1024 c = title_some _ c.two_in.ensures (omega arith) (omega arith)

pub returns-in_default : goal.returns-in_default
returns-in_default c = title_none _ c.two_in.ensures (omega arith)

pub returns-in_default-2 : goal.returns-in_default-2
returns-in_default-2 c = title_past _ c.two_in.ensures (omega arith) (omega arith)
