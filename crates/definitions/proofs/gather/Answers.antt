-- `gather`: at the loop's head the items left make the whole.
use Rattle.wire.proofs.Walks.{step_of, along, here, over_end}
use Rattle.definitions.proofs.Gathering.{item_here, gathering_begins, along_set, gathering_goes_on, gathering_refuses, all_gathered}
use native.Mathlib.Omega.{arith}
use mathlib.Core.Path.{◌≡◌, ◌∙◌}
use Rattle.definitions.proofs.gather.Goals as goal

pub fields_in-p-items-requires : goal.fields_in-p-items-requires
fields_in-p-items-requires c = omega (arith, c.requires.0.manifest)

pub loop-p-init : goal.loop-p-init
loop-p-init c =
    let at : c.into_iter-p-iterator.result.at ≡ c.end_of.result = cc in
    (record { bytes = cc; end = cc }, gathering_begins _ _ c.requires.0 c.requires.1 (at ∙ c.end_of.ensures))

pub gather_item-requires : goal.gather_item-requires
gather_item-requires c =
    let at = here c.loop-p.invariant.0 c.in-Some.ensures.steps in
    (along_set c.loop-p.invariant.1 at, item_here c.loop-p.invariant.1 at (step_of c.loop-p.invariant.0 c.in-Some.ensures.steps).before)

pub returns-in_err-gather_item : goal.returns-in_err-gather_item
returns-in_err-gather_item c =
    let at = here c.loop-p.invariant.0 c.in-Some.ensures.steps in
    let step = step_of c.loop-p.invariant.0 c.in-Some.ensures.steps in
    let handed_on : c.from_residual.result ≡ c.gather_item.result = grind arith in
    rw handed_on (rw c.in_err-gather_item.was (gathering_refuses c.loop-p.invariant.1 at step.before c.gather_item.ensures c.in_err-gather_item.was))

pub loop-p-preserved : goal.loop-p-preserved
loop-p-preserved c =
    let at = here c.loop-p.invariant.0 c.in-Some.ensures.steps in
    let step = step_of c.loop-p.invariant.0 c.in-Some.ensures.steps in
    (along c.loop-p.invariant.0 c.in-Some.ensures.steps, gathering_goes_on c.loop-p.invariant.1 at step.before c.gather_item.ensures c.gather_item.auto.work c.in_ok-gather_item.was step.next)

pub shape_of-work : goal.shape_of-work
shape_of-work c = c.loop-p.invariant.1.memory

pub returns : goal.returns
returns c = all_gathered c.loop-p.invariant.1 (over_end c.loop-p.invariant.0 c.in-None.ensures.steps)
