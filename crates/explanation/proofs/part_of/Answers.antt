-- `part_of`: a number each.
use native.Mathlib.Omega.{arith}
use Rattle.explanation.specs.Explained.{part_noted}
use Rattle.explanation.proofs.Noted.{part_last}
use borrow.Author.Rules.{rules}
use Rattle.explanation.proofs.part_of.Goals as goal

pub returns-in-1 : goal.returns-in-1
unfolding part_noted
returns-in-1 c = search rules

pub returns-in-2 : goal.returns-in-2
unfolding part_noted
returns-in-2 c = search rules

pub returns-in-3 : goal.returns-in-3
unfolding part_noted
returns-in-3 c = search rules

pub returns-in-4 : goal.returns-in-4
unfolding part_noted
returns-in-4 c = search rules

pub returns-in_default : goal.returns-in_default
returns-in_default c = part_last _ (omega arith) (omega arith) (omega arith) (omega arith)
