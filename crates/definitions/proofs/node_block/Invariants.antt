-- `node_block`: at the loop's head only names stand between q and the block.
use Rattle.definitions.proofs.Nodes.{Reaching}
use Prim.Native.Nat.{◌-◌}
use Rattle.definitions.proofs.node_block.Given as goal

abbrev pub invariant-loop-q : goal.invariant-loop-q
invariant-loop-q l = Reaching l.m l.p l.q

abbrev pub decreases-loop-q : goal.decreases-loop-q
decreases-loop-q l = 65536 - l.q
