-- `check_types`: what is left to check decides.
use mathlib.Core.Path.{◌∙◌}
use native.Mathlib.Omega.{arith}
use Rattle.type_list.proofs.Checking.{empty_list, not_empty, sixty_fifth, wrong_field, next_field, all_right}
use Rattle.type_list.proofs.check_types.Goals as goal

pub returns-then-list-eq0 : goal.returns-then-list-eq0
returns-then-list-eq0 c = c.at.ensures ∙ empty_list _ c.if-list-eq0.true

pub loop-q-init : goal.loop-q-init
loop-q-init c = not_empty _ c.if-list-eq0.false

pub returns-then-more-eq0 : goal.returns-then-more-eq0
returns-then-more-eq0 c = c.at-then-more-eq0.ensures ∙ sixty_fifth _ _ _ c.loop-q-test.true _ c.if-more-eq0.true c.loop-q.invariant

pub slice_bounds-is_right-count : goal.slice_bounds-is_right-count
slice_bounds-is_right-count c = omega (arith, c.loop-q.invariant.ordered)

pub slice_bounds-is_right-start : goal.slice_bounds-is_right-start
slice_bounds-is_right-start c = omega (arith, c.loop-q.invariant.ordered)

pub slice_bounds-is_right-end : goal.slice_bounds-is_right-end
slice_bounds-is_right-end c = omega (arith, c.loop-q.invariant.within)

pub is_right-requires : goal.is_right-requires
is_right-requires c = c.loop-q-test.true

pub returns-then-not-is_right : goal.returns-then-not-is_right
returns-then-not-is_right c = c.at-then-not-is_right.ensures ∙ wrong_field _ _ _ c.loop-q-test.true _ c.is_right.ensures c.if-more-eq0.false c.loop-q.invariant c.if-not-is_right.true

pub overflow_add-start : goal.overflow_add-start
overflow_add-start c = omega (arith, c.loop-q.invariant.early)

pub end_of-q-requires : goal.end_of-q-requires
end_of-q-requires c = omega (arith, c.loop-q.invariant.early)

pub overflow_sub-more : goal.overflow_sub-more
overflow_sub-more c = omega (arith, c.if-more-eq0.false)

pub loop-q-smaller : goal.loop-q-smaller
loop-q-smaller c = omega (arith, c.end_of-q.ensures, c.loop-q-test.true)

pub loop-q-preserved : goal.loop-q-preserved
loop-q-preserved c = next_field _ _ _ c.loop-q-test.true _ c.is_right.ensures c.if-more-eq0.false c.loop-q.invariant c.if-not-is_right.false c.end_of-q.ensures

pub returns : goal.returns
returns c = all_right _ _ _ _ c.loop-q-test.false c.loop-q.invariant
