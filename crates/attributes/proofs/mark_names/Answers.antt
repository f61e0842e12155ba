-- `mark_names`: at the loop's head, what is marked and what is left make the whole.
use Rattle.std.proofs.Common.{◌≡◌, refl, subst, arith, rules}
use Rattle.wire.proofs.Walks.{step_of, along, here, over_end}
use Rattle.attributes.proofs.Repeats.{MarkedTo, marking_begins, marking_further, marking_ends, marks_one}
use Rattle.attributes.proofs.mark_names.Goals as goal

pub loop-q-init : goal.loop-q-init
loop-q-init c =
    let at : c.args.first ≡ c.into_iter-q-iterator.result.at = cc in
    (record { bytes = cc; end = cc }, refl, subst (MarkedTo c.args.m.now c.args.seen.now c.args.seen.now c.args.first c.args.end) at (marking_begins _ c.args.seen.now _ _))

pub loop-q-preserved : goal.loop-q-preserved
loop-q-preserved c =
    let loop = c.loop-q in
    let along_it = loop.invariant.0 in
    let step = step_of along_it c.in-Some.ensures.steps in
    let so_far = subst (MarkedTo c.args.m.now c.args.seen.now loop.seen c.args.first c.args.end) (here along_it c.in-Some.ensures.steps) loop.invariant.2 in
    (along along_it c.in-Some.ensures.steps, search rules, marking_further _ c.args.seen.now loop.seen _ _ _ so_far _ step.before c.two_at.ensures (marks_one loop.seen _ _ (omega (arith, loop.invariant.1, c.requires.1)) c.put_byte.ensures) step.next)

pub returns : goal.returns
returns c = marking_ends _ c.args.seen.now c.loop-q.seen _ _ _ c.loop-q.invariant.2 (over_end c.loop-q.invariant.0 c.in-None.ensures.steps)
