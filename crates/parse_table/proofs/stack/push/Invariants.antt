-- `push`: what is left of the number, on the symbols so far, is the whole number on those below the top.
use Rattle.parse_table.proofs.Pushing.{Going}
use Rattle.parse_table.proofs.stack.push.Given as goal

abbrev pub invariant-loop-left : goal.invariant-loop-left
invariant-loop-left l = Going l.initial.stack l.top l.symbols l.stack l.next l.left

abbrev pub decreases-loop-left : goal.decreases-loop-left
decreases-loop-left l = l.left
