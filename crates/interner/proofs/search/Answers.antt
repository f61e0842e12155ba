-- `search`: the string belongs between two indexes.
use mathlib.Core.Path.{sym, ◌∙◌}
use native.Mathlib.Omega.{arith}
use Rattle.interner.proofs.Searching.{not_narrowed, narrow_enough, found_here, narrow_up, narrow_down}
use Rattle.interner.proofs.search.Goals as goal

pub loop-low-init : goal.loop-low-init
loop-low-init c = not_narrowed _ _ _

pub overflow_add-middle : goal.overflow_add-middle
overflow_add-middle c = omega (arith, c.loop-low.invariant.within, c.requires.small)

pub overflow_mul-middle : goal.overflow_mul-middle
overflow_mul-middle c = omega (arith, c.loop-low.invariant.within, c.requires.small)

pub two_in-place-requires : goal.two_in-place-requires
two_in-place-requires c = omega (arith, c.loop-low.invariant.within, c.requires.room)

pub overflow_add-low : goal.overflow_add-low
overflow_add-low c = omega (arith, c.loop-low.invariant.within, c.requires.small)

pub loop-low-preserved-in-Less : goal.loop-low-preserved-in-Less
loop-low-preserved-in-Less c = narrow_up _ _ _ _ _ c.requires.rising c.two_in-place.ensures c.loop-low.invariant (omega arith) (omega arith) (sym c.in-Less.is ∙ c.compare.ensures)

pub returns-in-Equal : goal.returns-in-Equal
returns-in-Equal c = found_here _ _ _ _ _ c.requires.rising c.two_in-place.ensures c.loop-low.invariant (omega arith) (omega arith) (sym c.in-Equal.is ∙ c.compare.ensures)

pub loop-low-preserved : goal.loop-low-preserved
loop-low-preserved c = narrow_down _ _ _ _ _ c.requires.rising c.two_in-place.ensures c.loop-low.invariant (omega arith) (omega arith) (sym c.in-Greater.is ∙ c.compare.ensures)

pub returns : goal.returns
returns c = narrow_enough _ _ _ c.loop-low.invariant c.loop-low-test.false
