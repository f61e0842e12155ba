-- `first_unprintable`: what the fields from here on give is what they all give.
use mathlib.Core.Path.{sym, ◌∙◌}
use native.Mathlib.Omega.{arith}
use Rattle.printable.proofs.InOrder.{gone_end, goes_on, stops_here}
use Rattle.printable.proofs.Tree.{found_at, found_none}
use Rattle.printable.proofs.first_unprintable.Goals as goal

pub prints_at-requires : goal.prints_at-requires
prints_at-requires c = (c.requires.0, (c.requires.1.1.1, c.loop-p-test.true))

pub overflow_cast-result : goal.overflow_cast-result
overflow_cast-result c = omega (arith, c.requires.1.1.0, c.loop-p-test.true)

pub returns-then-not-prints_at : goal.returns-then-not-prints_at
returns-then-not-prints_at c = found_at _ _ c.requires.1.0 c.end_of-p.ensures (stops_here _ _ _ _ _ c.loop-p-test.true c.prints_at.ensures c.if-not-prints_at.true c.loop-p.invariant)

pub label_behind-last-requires : goal.label_behind-last-requires
label_behind-last-requires c = c.loop-p-test.true

pub next_place-p-requires : goal.next_place-p-requires
next_place-p-requires c = c.loop-p-test.true

pub loop-p-smaller : goal.loop-p-smaller
loop-p-smaller c = omega (arith, c.next_place-p.ensures, c.loop-p-test.true)

pub loop-p-preserved : goal.loop-p-preserved
loop-p-preserved c = goes_on _ _ _ _ _ c.loop-p-test.true c.prints_at.ensures c.if-not-prints_at.false c.label_behind-last.ensures c.next_place-p.ensures c.loop-p.invariant

pub returns : goal.returns
returns c = found_none _ _ c.requires.1.0 c.end_of-p.ensures (sym (gone_end _ _ _ _ _ c.loop-p-test.false) ∙ c.loop-p.invariant)
