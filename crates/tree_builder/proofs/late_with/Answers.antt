-- `late_with`: there is a late constant, or this one is on a low line, or is the first late one.
use Rattle.tree_builder.proofs.Late.{late_already, not_late, first_late}
use native.Mathlib.Omega.{arith}
use Rattle.tree_builder.proofs.late_with.Goals as goal

pub returns-then-late-ne0 : goal.returns-then-late-ne0
returns-then-late-ne0 c = let a = c.args in late_already a.late a.line a.place (omega arith)

pub returns-then-line-le255 : goal.returns-then-line-le255
returns-then-line-le255 c = let a = c.args in not_late a.late a.line a.place (omega arith) (omega arith)

pub returns : goal.returns
returns c = let a = c.args in first_late a.late a.line a.place (omega arith) (omega arith)
