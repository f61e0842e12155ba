-- `items`: at the loop's head, what is written and the items left give the whole.
use mathlib.Core.Path.{◌≡◌, refl, sym, ◌∙◌}
use native.Mathlib.Omega.{arith}
use Rattle.item_printer.proofs.PrintedItems.{no_item_yet, item_stands, one_item, all_items}
use Rattle.wire.proofs.Walks.{step_of, here, along, over_end}
use Rattle.item_printer.proofs.items.Goals as goal

pub fields_in-p-items-requires : goal.fields_in-p-items-requires
fields_in-p-items-requires c = omega (arith, c.requires.0.short)

pub loop-p-init : goal.loop-p-init
loop-p-init c =
    let at : c.into_iter-p-iterator.result.at ≡ c.args.first = cc in
    (rw at (no_item_yet _ _ _ c.requires.1), refl, record { bytes = cc; end = cc })

pub end_of-requires : goal.end_of-requires
end_of-requires c =
    let before = (step_of c.loop-p.invariant.2 c.in-Some.ensures.steps).before in
    omega (arith, before, c.requires.0.short)

pub first_label-line-requires : goal.first_label-line-requires
first_label-line-requires c =
    let along_it = c.loop-p.invariant.2 in
    let so_far = rw (here along_it c.in-Some.ensures.steps) at c.loop-p.invariant.0 in
    (omega (arith, c.end_of.ensures, (item_stands _ _ _ (step_of along_it c.in-Some.ensures.steps).before so_far).stands.ends), c.requires.0.short)

pub item-at-requires : goal.item-at-requires
item-at-requires c =
    let along_it = c.loop-p.invariant.2 in
    let so_far = rw (here along_it c.in-Some.ensures.steps) at c.loop-p.invariant.0 in
    (c.requires.0, item_stands _ _ _ (step_of along_it c.in-Some.ensures.steps).before so_far)

pub loop-p-preserved : goal.loop-p-preserved
loop-p-preserved c =
    let along_it = c.loop-p.invariant.2 in
    let step = step_of along_it c.in-Some.ensures.steps in
    let so_far = rw (here along_it c.in-Some.ensures.steps) at c.loop-p.invariant.0 in
    let line = rw (c.end_of.ensures ∙ sym step.next) at c.first_label-line.ensures in
    (one_item _ _ _ step.before so_far step.next line c.item-at.ensures, c.item-at.auto.out ∙ c.loop-p.invariant.1, along along_it c.in-Some.ensures.steps)

pub returns : goal.returns
returns c = all_items _ _ _ (over_end c.loop-p.invariant.2 c.in-None.ensures.steps) c.loop-p.invariant.0
