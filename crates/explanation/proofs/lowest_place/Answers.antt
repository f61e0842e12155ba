-- `lowest_place`: at the loop's head the compile comes to none before `low`, and to one before `high`.
use mathlib.Core.Path.{refl, ◌∙◌}
use native.Mathlib.Omega.{arith}
use Rattle.explanation.proofs.Searching.{search_begins, search_lower, search_higher, search_ends}
use Rattle.explanation.proofs.lowest_place.Goals as goal

pub overflow_cast-high : goal.overflow_cast-high
overflow_cast-high c = omega (arith, c.requires.0.1.1)

pub loop-low-init : goal.loop-low-init
loop-low-init c = (refl, (refl, search_begins _ _ _ _ refl))

pub overflow_cast-low : goal.overflow_cast-low
overflow_cast-low c = omega (arith, c.loop-low.invariant.1.1.within, c.loop-low.invariant.1.1.ordered, c.requires.0.1.1)

pub overflow_add-low : goal.overflow_add-low
overflow_add-low c = omega (arith, c.loop-low.invariant.1.1.within, c.loop-low.invariant.1.1.ordered, c.requires.0.1.1)

pub overflow_cast-high-in-loop-low : goal.overflow_cast-high-in-loop-low
overflow_cast-high-in-loop-low c = omega (arith, c.loop-low.invariant.1.1.within, c.loop-low.invariant.1.1.ordered, c.requires.0.1.1)

pub overflow_sub-middle : goal.overflow_sub-middle
overflow_sub-middle c = omega (arith, c.loop-low-test.true, c.loop-low.invariant.1.1.within, c.requires.0.1.1)

pub overflow_add-middle : goal.overflow_add-middle
overflow_add-middle c = omega (arith, c.loop-low-test.true, c.loop-low.invariant.1.1.within, c.requires.0.1.1)

pub comes_below-requires : goal.comes_below-requires
comes_below-requires c = (c.requires.0, (omega (arith, c.loop-low.invariant.1.0, c.requires.1.0), c.loop-low.invariant.0 ∙ c.requires.1.1))

pub loop-low-smaller-then-comes_below : goal.loop-low-smaller-then-comes_below
loop-low-smaller-then-comes_below c = omega (arith, c.loop-low-test.true)

pub loop-low-preserved-then-comes_below : goal.loop-low-preserved-then-comes_below
loop-low-preserved-then-comes_below c = (c.comes_below.auto.out ∙ c.loop-low.invariant.0, (c.comes_below.auto.work ∙ c.loop-low.invariant.1.0, search_lower _ _ _ _ c.loop-low.invariant.1.1 c.comes_below.ensures (omega arith) (omega (arith, c.loop-low-test.true)) c.if-comes_below.true))

pub loop-low-smaller : goal.loop-low-smaller
loop-low-smaller c = omega (arith, c.loop-low-test.true)

pub loop-low-preserved : goal.loop-low-preserved
loop-low-preserved c = (c.comes_below.auto.out ∙ c.loop-low.invariant.0, (c.comes_below.auto.work ∙ c.loop-low.invariant.1.0, search_higher _ _ _ _ c.loop-low.invariant.1.1 c.comes_below.ensures (omega (arith, c.loop-low-test.true)) c.if-comes_below.false))

pub shape_of-out : goal.shape_of-out
shape_of-out c = c.loop-low.invariant.0

pub shape_of-work : goal.shape_of-work
shape_of-work c = c.loop-low.invariant.1.0

pub returns : goal.returns
returns c = search_ends _ _ _ _ c.loop-low.invariant.1.1 (omega (arith, c.loop-low-test.false))
