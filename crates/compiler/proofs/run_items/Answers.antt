-- `run_items`: at the loop's head the items left make the whole run of what the bytes stand for.
use Rattle.wire.proofs.Walks.{step_of, along, here, over_end}
use Rattle.definitions.proofs.Gathering.{item_stands}
use Rattle.compiler.proofs.Items.{items_begin, come_to, still_able, items_go_on, items_refuse, items_done}
use native.Mathlib.Omega.{arith}
use mathlib.Core.Path.{◌≡◌, ◌∙◌}
use Rattle.compiler.proofs.run_items.Goals as goal

pub fields_in-p-items-requires : goal.fields_in-p-items-requires
fields_in-p-items-requires c = omega (arith, c.requires.0.set.manifest)

pub loop-p-init : goal.loop-p-init
loop-p-init c =
    let at : c.into_iter-p-iterator.result.at ≡ c.end_of.result = cc in
    (record { bytes = cc; end = cc }, items_begin _ _ _ _ _ c.requires.0 c.requires.1 (at ∙ c.end_of.ensures))

pub run_item-requires : goal.run_item-requires
run_item-requires c =
    let so = come_to c.loop-p.invariant.1 (here c.loop-p.invariant.0 c.in-Some.ensures.steps) in
    (still_able so, item_stands so.items (step_of c.loop-p.invariant.0 c.in-Some.ensures.steps).before)

pub returns-in_err-filled : goal.returns-in_err-filled
returns-in_err-filled c =
    let so = come_to c.loop-p.invariant.1 (here c.loop-p.invariant.0 c.in-Some.ensures.steps) in
    let handed_on : c.from_residual.result ≡ c.run_item.result = grind arith in
    rw handed_on (items_refuse so _ _ (step_of c.loop-p.invariant.0 c.in-Some.ensures.steps).before c.run_item.ensures c.in_err-filled.was)

pub loop-p-preserved : goal.loop-p-preserved
loop-p-preserved c =
    let so = come_to c.loop-p.invariant.1 (here c.loop-p.invariant.0 c.in-Some.ensures.steps) in
    let step = step_of c.loop-p.invariant.0 c.in-Some.ensures.steps in
    (along c.loop-p.invariant.0 c.in-Some.ensures.steps, items_go_on so _ _ step.before c.run_item.ensures c.run_item.auto.work c.run_item.auto.out c.in_ok-filled.was step.next)

pub shape_of-work : goal.shape_of-work
shape_of-work c = c.loop-p.invariant.1.memory

pub shape_of-out : goal.shape_of-out
shape_of-out c = c.loop-p.invariant.1.output

pub returns : goal.returns
returns c = items_done c.loop-p.invariant.1 (over_end c.loop-p.invariant.0 c.in-None.ensures.steps)
