-- `end_of_parameters`: at the loop's head the 33s from q on are the last of those that begin at `from`. A 33 stands before the end of the bytes, so what is left of them falls.
use native.Mathlib.Omega.{arith}
use Rattle.parameters.proofs.Searches.{parameter_further, parameters_end, tag_within}
use Rattle.parameters.proofs.end_of_parameters.Goals as goal

pub loop-q-init : goal.loop-q-init
loop-q-init c = λ to e s b. s

pub end_of-q-requires : goal.end_of-q-requires
end_of-q-requires c = omega (arith, tag_within c.args.m.now c.loop-q.q c.byte_at.ensures c.loop-q-test.true, c.requires.0)

pub loop-q-smaller : goal.loop-q-smaller
loop-q-smaller c = omega (arith, tag_within c.args.m.now c.loop-q.q c.byte_at.ensures c.loop-q-test.true, c.end_of-q.ensures)

pub loop-q-preserved : goal.loop-q-preserved
loop-q-preserved c = parameter_further c.loop-q.invariant c.byte_at.ensures c.loop-q-test.true c.end_of-q.ensures

pub returns : goal.returns
returns c = parameters_end c.loop-q.invariant c.byte_at.ensures c.loop-q-test.false
