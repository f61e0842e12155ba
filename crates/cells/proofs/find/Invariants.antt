-- `find`: at the loop's head the slots below p find what the whole search finds, and `link` is what stands at p.
use Rattle.cells.specs.Slots.{state_byte}
use Rattle.cells.proofs.SlotReads.{Left}
use Rattle.cells.proofs.find.Given as goal

abbrev pub invariant-loop-i : goal.invariant-loop-i
invariant-loop-i l = Left l.work l.scope l.name (state_byte l.state) l.chain l.p l.link

abbrev pub decreases-loop-i : goal.decreases-loop-i
decreases-loop-i l = l.p
