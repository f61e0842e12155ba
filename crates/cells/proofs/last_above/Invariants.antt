-- `last_above`: at the loop's head p is on the chain's way, above j.
use Rattle.cells.proofs.SlotReads.{Walked}
use Rattle.cells.proofs.last_above.Given as goal

abbrev pub invariant-loop-i : goal.invariant-loop-i
invariant-loop-i l = Walked l.work l.chain l.j l.p

abbrev pub decreases-loop-i : goal.decreases-loop-i
decreases-loop-i l = l.p
