-- `gather`: at the loop's head the attributes up to there are appended.
use mathlib.Core.Path.{◌≡◌, refl, ◌∙◌}
use native.Mathlib.Omega.{arith}
use Rattle.wire.proofs.Walks.{step_of, along, here, over_end}
use Rattle.resources.proofs.Gathering.{gathering_begins, gathering_here, gathering_on, gathering_stops, gathering_ends, added_kept, added_most, sized_kept}
use Rattle.resources.proofs.gather.Goals as goal

pub loop-q-init : goal.loop-q-init
loop-q-init c =
    let at : c.args.span.first ≡ c.into_iter-q-iterator.result.at = cc in
    (record { bytes = cc; end = cc }, λ d e. gathering_here at (gathering_begins _ _ _ _ _ _ _ _ _ _), omega arith)

pub add_attribute-requires : goal.add_attribute-requires
add_attribute-requires c =
    let inv = c.loop-q.invariant in
    let it = c.in-Some.ensures.steps in
    let step = step_of inv.0 it in
    (sized_kept c.requires (inv.1 _ refl).kept.long (omega (arith, step.before)), omega (arith, inv.2, here inv.0 it, step.before, c.requires.place))

pub shape_of-out-in_err-size : goal.shape_of-out-in_err-size
shape_of-out-in_err-size c = added_kept c.add_attribute.ensures ∙ (c.loop-q.invariant.1 _ refl).kept.long

pub returns-in_err-size : goal.returns-in_err-size
returns-in_err-size c =
    let inv = c.loop-q.invariant in
    let it = c.in-Some.ensures.steps in
    let handed_on : c.from_residual.result ≡ c.add_attribute.result = grind arith in
    λ d e. rw handed_on (gathering_stops (gathering_here (here inv.0 it) (inv.1 d e)) _ e (step_of inv.0 it).before c.add_attribute.ensures c.in_err-size.was)

pub loop-q-preserved : goal.loop-q-preserved
loop-q-preserved c =
    let inv = c.loop-q.invariant in
    let it = c.in-Some.ensures.steps in
    let step = step_of inv.0 it in
    (along inv.0 it, λ d e. gathering_on (gathering_here (here inv.0 it) (inv.1 d e)) _ e step.before c.add_attribute.ensures c.in_ok-size.was step.next, omega (arith, added_most c.add_attribute.ensures c.in_ok-size.was, inv.2, here inv.0 it, step.next))

pub shape_of-out : goal.shape_of-out
shape_of-out c = (c.loop-q.invariant.1 _ refl).kept.long

pub returns : goal.returns
returns c = λ d e. gathering_ends (c.loop-q.invariant.1 d e) (over_end c.loop-q.invariant.0 c.in-None.ensures.steps)
