-- `node_block`: at the loop's head only names stand between q and the block.
use Rattle.definitions.proofs.Nodes.{node_begins, node_goes_on, node_ends}
use native.Mathlib.Omega.{arith}
use Rattle.definitions.proofs.node_block.Goals as goal

pub overflow_add-q : goal.overflow_add-q
overflow_add-q c = omega (arith, c.requires.0.0.stands.stands.ends, c.requires.1)

pub loop-q-init : goal.loop-q-init
loop-q-init c = node_begins _ _ c.requires.0.0 c.requires.0.1

pub end_of-q-requires : goal.end_of-q-requires
end_of-q-requires c = omega (arith, c.loop-q.invariant.below, c.requires.1)

pub loop-q-smaller : goal.loop-q-smaller
loop-q-smaller c = omega (arith, c.loop-q.invariant.below, c.requires.1, c.end_of-q.ensures)

pub loop-q-preserved : goal.loop-q-preserved
loop-q-preserved c = node_goes_on _ _ _ c.loop-q.invariant c.is_device.ensures c.loop-q-test.true c.end_of-q.ensures

pub returns : goal.returns
returns c = node_ends _ _ _ c.loop-q.invariant c.is_device.ensures c.loop-q-test.false
