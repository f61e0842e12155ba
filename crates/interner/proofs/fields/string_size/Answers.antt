-- `string_size`: the bytes passed and those left make the whole string.
use mathlib.Core.Path.{ap}
use native.Mathlib.Omega.{arith}
use lib.ListN.{length}
use Rattle.interner.proofs.Measuring.{none_left, one_less_left, moves_on}
use Rattle.interner.proofs.fields.string_size.Goals as goal

pub loop-first-init : goal.loop-first-init
loop-first-init c = (omega (arith, ap length c.start-first.ensures.0), omega arith, omega arith)

pub returns-then-x-eq0 : goal.returns-then-x-eq0
returns-then-x-eq0 c = (omega (arith, c.loop-first.invariant.0, none_left c.next-x.ensures c.if-x-eq0.true), c.loop-first.invariant.2)

pub overflow_add-size : goal.overflow_add-size
overflow_add-size c = omega (arith, c.loop-first.invariant.1, moves_on c.next-x.ensures c.if-x-eq0.false)

pub loop-first-smaller : goal.loop-first-smaller
loop-first-smaller c = omega (arith, moves_on c.next-x.ensures c.if-x-eq0.false)

pub loop-first-preserved : goal.loop-first-preserved
loop-first-preserved c =
    let on = moves_on c.next-x.ensures c.if-x-eq0.false in
    let l = c.loop-first in
    (omega (arith, l.invariant.0, one_less_left c.next-x.ensures c.if-x-eq0.false), omega (arith, l.invariant.1, on.0), omega (arith, l.invariant.1, on.0, on.1))
