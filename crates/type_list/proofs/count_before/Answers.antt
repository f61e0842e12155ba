-- `count_before`: the text belongs between two numbers.
use native.Mathlib.Omega.{arith}
use Rattle.type_list.proofs.Searching.{not_narrowed, narrow_enough, narrow_up, narrow_down}
use Rattle.type_list.proofs.count_before.Goals as goal

pub loop-low-init : goal.loop-low-init
loop-low-init c = not_narrowed _ _ _ _

pub loop-low-preserved-then-comes_before : goal.loop-low-preserved-then-comes_before
loop-low-preserved-then-comes_before c = narrow_up _ _ _ _ _ c.requires c.loop-low.invariant (omega arith) (omega (arith, c.loop-low-test.true)) c.two_at-place.ensures c.text_of.ensures c.comes_before.ensures c.if-comes_before.true

pub loop-low-preserved : goal.loop-low-preserved
loop-low-preserved c = narrow_down _ _ _ _ _ c.requires c.loop-low.invariant (omega arith) (omega (arith, c.loop-low-test.true)) c.two_at-place.ensures c.text_of.ensures c.comes_before.ensures c.if-comes_before.false

pub returns : goal.returns
returns c = narrow_enough _ _ _ _ c.loop-low-test.false c.loop-low.invariant
