-- `mark_built_ins`: at the loop's head the strings before are marked, and those left make the whole.
use Prim.Native.Nat.{◌≤◌}
use native.Mathlib.Omega.{arith}
use lib.ListN.{length}
use mathlib.Core.Path.{ap}
use Rattle.wire.specs.Bytes.{two, fields_in}
use Rattle.rules.specs.Check.{string_places}
use Rattle.definitions.proofs.Marking.{string_below, one_marked, all_marked}
use Rattle.definitions.proofs.mark_built_ins.Goals as goal

pub fields_in-requires : goal.fields_in-requires
unfolding two
fields_in-requires c = omega (arith, c.end_of-end.ensures, c.type_inv.m 1, c.type_inv.m 2)

pub overflow_cast-n : goal.overflow_cast-n
unfolding string_places
overflow_cast-n c =
    let step = c.in-Some.ensures.steps in
    let few : length (fields_in c.args.m.now 3 c.end_of-end.result) ≤ 1024 = rw c.end_of-end.ensures c.requires.1.1 in
    omega (arith, step.1, string_below _ _ _ _ _ c.loop-n.invariant step.0.left few)

pub mark_string-requires : goal.mark_string-requires
unfolding string_places
mark_string-requires c =
    let step = c.in-Some.ensures.steps in
    let few : length (fields_in c.args.m.now 3 c.end_of-end.result) ≤ 1024 = rw c.end_of-end.ensures c.requires.1.1 in
    (c.requires.0, (omega (arith, c.requires.1.0, c.loop-n.invariant.size), omega (arith, step.1, string_below _ _ _ _ _ c.loop-n.invariant step.0.left few)))

pub loop-n-preserved : goal.loop-n-preserved
loop-n-preserved c =
    let step = c.in-Some.ensures.steps in
    one_marked _ _ _ _ _ c.loop-n.invariant step.0.left _ (rw step.1 at c.mark_string.ensures) c.mark_string.auto.work step.2

pub returns : goal.returns
unfolding string_places
returns c = all_marked _ _ _ _ _ c.loop-n.invariant c.in-None.ensures.steps.0.left (ap (fields_in c.args.m.now 3) c.end_of-end.ensures)

pub shape_of-work : goal.shape_of-work
shape_of-work c = c.loop-n.invariant.size
