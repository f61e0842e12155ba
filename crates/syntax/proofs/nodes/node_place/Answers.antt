-- `node_place`: the items left, with the default node met, give the node that runs.
use native.Mathlib.Omega.{arith}
use Rattle.wire.proofs.Walks.{step_of, along}
use Rattle.syntax.proofs.Chosen.{looking_begins, names_it, looking_goes_on, looked_at_all}
use Rattle.syntax.proofs.nodes.node_place.Goals as goal

pub loop-p-init : goal.loop-p-init
loop-p-init c = (record { bytes = cc; end = cc }, looking_begins _ _ c.end_of.ensures cc)

pub names_device-requires : goal.names_device-requires
names_device-requires c = (c.requires.0, omega (arith, c.requires.1, (step_of c.loop-p.invariant.0 c.in-Some.ensures.steps).before))

pub overflow_cast-result : goal.overflow_cast-result
overflow_cast-result c = omega (arith, c.requires.1, (step_of c.loop-p.invariant.0 c.in-Some.ensures.steps).before)

pub returns-then-names_device : goal.returns-then-names_device
returns-then-names_device c = names_it c.loop-p.invariant.1 c.in-Some.ensures.steps.left c.names_device.ensures c.if-names_device.true

pub first_default-default-requires : goal.first_default-default-requires
first_default-default-requires c = omega (arith, c.requires.1, (step_of c.loop-p.invariant.0 c.in-Some.ensures.steps).before)

pub loop-p-preserved : goal.loop-p-preserved
loop-p-preserved c = (along c.loop-p.invariant.0 c.in-Some.ensures.steps, looking_goes_on c.loop-p.invariant.1 c.in-Some.ensures.steps.left c.names_device.ensures c.if-names_device.false c.first_default-default.ensures)

pub returns : goal.returns
returns c = looked_at_all c.loop-p.invariant.1 c.in-None.ensures.steps.left
