-- `compare_rests`: what is left of the strings has the order of what was left at first.
use Rattle.interner.proofs.Comparing.{comes_first, comes_last, ends_same, both_go_on, goes_onward}
use Rattle.interner.proofs.compare_rests.Goals as goal

pub returns-then-x-y : goal.returns-then-x-y
returns-then-x-y c = comes_first c.next-x.ensures c.next-y.ensures c.loop-x.invariant c.if-x-y.true

pub returns-then-y-x : goal.returns-then-y-x
returns-then-y-x c = comes_last c.next-x.ensures c.next-y.ensures c.loop-x.invariant c.if-y-x.true

pub returns-then-x-eq0 : goal.returns-then-x-eq0
returns-then-x-eq0 c = ends_same c.next-x.ensures c.next-y.ensures c.loop-x.invariant c.if-x-y.false c.if-x-eq0.true

pub loop-x-smaller : goal.loop-x-smaller
loop-x-smaller c = goes_onward c.next-x.ensures c.next-y.ensures c.loop-x.invariant c.if-x-eq0.false

pub loop-x-preserved : goal.loop-x-preserved
loop-x-preserved c = both_go_on c.next-x.ensures c.next-y.ensures c.loop-x.invariant c.if-x-y.false c.if-y-x.false c.if-x-eq0.false
