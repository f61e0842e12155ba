-- `push`: what is left of the number, on the symbols so far, is the whole number on those below the top.
use native.Mathlib.Omega.{arith}
use Rattle.parse_table.proofs.Pushing.{none_put, room_for, one_put, all_put}
use Rattle.parse_table.proofs.stack.push.Goals as goal

pub loop-left-init : goal.loop-left-init
loop-left-init c = none_put c.args.stack.now c.args.top c.args.symbols c.requires.0 (omega arith)

pub bounds-stack-next : goal.bounds-stack-next
bounds-stack-next c =
    let g = c.loop-left.invariant in
    let r = room_for _ _ _ _ _ _ g c.loop-left-test.true in
    omega (arith, r, g.1.size, c.requires.1)

pub overflow_add-next : goal.overflow_add-next
overflow_add-next c =
    let g = c.loop-left.invariant in
    let r = room_for _ _ _ _ _ _ g c.loop-left-test.true in
    omega (arith, r, c.requires.1, c.well_formed.0.0)

pub loop-left-preserved : goal.loop-left-preserved
loop-left-preserved c = one_put _ _ _ _ _ _ c.loop-left.invariant c.loop-left-test.true (bounds-stack-next c)

pub shape_of-stack : goal.shape_of-stack
shape_of-stack c = c.loop-left.invariant.1.size

pub returns : goal.returns
returns c = all_put _ _ _ _ _ _ c.loop-left.invariant c.loop-left-test.false
