-- `try_patterns`: at the loop's head, what was tried and the patterns left give the whole.
use mathlib.Core.Path.{◌≡◌}
use native.Mathlib.Omega.{arith}
use Rattle.wire.proofs.Walks.{step_of, along, here, over_end}
use Rattle.patterns.proofs.Trying.{none_tried}
use Rattle.patterns.proofs.Ways.{at_end_lem, at_default, at_equal, at_other}
use Rattle.patterns.proofs.try_patterns.Goals as goal

pub loop-q-init : goal.loop-q-init
loop-q-init c =
    let at : c.into_iter-q-iterator.result.at ≡ c.args.from = cc in
    (record { bytes = cc; end = cc }, rw at (none_tried _ _ _ _ _ c.requires.1))

pub loop-q-preserved-then-tag-eq27 : goal.loop-q-preserved-then-tag-eq27
loop-q-preserved-then-tag-eq27 c =
    let so = c.loop-q.invariant.0 in
    let h = c.in-Some.ensures.steps in
    let step = step_of so h in
    (along so h, at_default _ _ _ _ _ _ _ _ (rw (here so h) at c.loop-q.invariant.1) step.before c.byte_at-tag.ensures c.if-tag-eq27.true c.end_of.ensures c.or-default.ensures step.next)

pub join_label-requires : goal.join_label-requires
join_label-requires c = c.loop-q.invariant.1.size

pub equals_constant-requires : goal.equals_constant-requires
equals_constant-requires c = let step = step_of c.loop-q.invariant.0 c.in-Some.ensures.steps in (c.byte_at-tag.ensures, omega (arith, step.before))

pub returns-then-equals_constant : goal.returns-then-equals_constant
returns-then-equals_constant c =
    let so = c.loop-q.invariant.0 in
    let h = c.in-Some.ensures.steps in
    at_equal _ _ _ _ _ _ _ _ (rw (here so h) at c.loop-q.invariant.1) (step_of so h).before c.byte_at-tag.ensures c.if-tag-eq27.false c.byte_at.ensures c.join_label.ensures c.equals_constant.ensures c.if-equals_constant.true c.end_of-then-equals_constant.ensures

pub loop-q-preserved : goal.loop-q-preserved
loop-q-preserved c =
    let so = c.loop-q.invariant.0 in
    let h = c.in-Some.ensures.steps in
    let step = step_of so h in
    (along so h, at_other _ _ _ _ _ _ _ _ (rw (here so h) at c.loop-q.invariant.1) step.before c.byte_at-tag.ensures c.if-tag-eq27.false c.byte_at.ensures c.join_label.ensures c.equals_constant.ensures c.if-equals_constant.false step.next)

pub returns : goal.returns
returns c = at_end_lem _ _ _ _ _ _ _ _ c.loop-q.invariant.1 (over_end c.loop-q.invariant.0 c.in-None.ensures.steps)
