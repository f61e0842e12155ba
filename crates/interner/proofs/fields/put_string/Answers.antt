-- `put_string`: what is left of the string, put where the loop is, makes the whole.
use mathlib.Core.Path.{◌∙◌}
use native.Mathlib.Omega.{arith}
use Rattle.wire.proofs.Laws.{same_over_length}
use Rattle.interner.proofs.Measuring.{none_left, one_less_left, moves_on}
use Rattle.interner.proofs.Putting.{put_ends, put_goes_on}
use Rattle.interner.proofs.fields.put_string.Goals as goal

pub loop-first-init : goal.loop-first-init
loop-first-init c = (rw c.start-first.ensures.0, rw c.start-first.ensures.0)

pub shape_of-out-then-x-eq0 : goal.shape_of-out-then-x-eq0
shape_of-out-then-x-eq0 c = same_over_length _ _ _ _ _ _ c.loop-first.invariant.0

pub returns-then-x-eq0 : goal.returns-then-x-eq0
returns-then-x-eq0 c =
    let l = c.loop-first in
    record {
      ends = omega (arith, l.invariant.1, none_left c.next-x.ensures c.if-x-eq0.true);
      stored = put_ends c.next-x.ensures l.out l.end c.if-x-eq0.true ∙ l.invariant.0;
    }

pub overflow_cast-out : goal.overflow_cast-out
overflow_cast-out c = omega (arith, c.next-x.ensures.small)

pub bounds-out-end : goal.bounds-out-end
bounds-out-end c = omega (arith, c.loop-first.invariant.1, one_less_left c.next-x.ensures c.if-x-eq0.false, same_over_length _ _ _ _ _ _ c.loop-first.invariant.0, c.requires)

pub overflow_add-end : goal.overflow_add-end
overflow_add-end c = omega (arith, c.loop-first.invariant.1, one_less_left c.next-x.ensures c.if-x-eq0.false, c.requires)

pub loop-first-smaller : goal.loop-first-smaller
loop-first-smaller c = omega (arith, moves_on c.next-x.ensures c.if-x-eq0.false)

pub loop-first-preserved : goal.loop-first-preserved
loop-first-preserved c =
    let l = c.loop-first in
    (put_goes_on c.next-x.ensures l.out l.end c.if-x-eq0.false ∙ l.invariant.0, omega (arith, l.invariant.1, one_less_left c.next-x.ensures c.if-x-eq0.false))
