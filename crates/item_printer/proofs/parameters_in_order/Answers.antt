-- `parameters_in_order`: at the loop's head, what is written and the parameters left give the whole.
use mathlib.Core.Path.{◌≡◌, refl, ◌∙◌}
use Rattle.places.specs.At.{parameters_at}
use Rattle.statement_printer.proofs.PrintedEntries.{no_entry_yet, entry_stands_lem, one_entry, all_entries}
use Rattle.wire.proofs.Walks.{step_of, here, along, over_end}
use Rattle.item_printer.proofs.parameters_in_order.Goals as goal

pub loop-q-init : goal.loop-q-init
loop-q-init c =
    let at : c.into_iter-q-iterator.result.at ≡ c.args.first = cc in
    (rw at (no_entry_yet _ _ _ _ _ _ _ c.requires.1), refl, record { bytes = cc; end = cc })

pub parameter-at-requires : goal.parameter-at-requires
parameter-at-requires c =
    let along_it = c.loop-q.invariant.2 in
    let so_far = rw (here along_it c.in-Some.ensures.steps) at c.loop-q.invariant.0 in
    (c.requires.0, entry_stands_lem _ _ _ _ _ _ _ (step_of along_it c.in-Some.ensures.steps).before so_far)

pub loop-q-preserved : goal.loop-q-preserved
unfolding parameters_at
loop-q-preserved c =
    let along_it = c.loop-q.invariant.2 in
    let step = step_of along_it c.in-Some.ensures.steps in
    let so_far = rw (here along_it c.in-Some.ensures.steps) at c.loop-q.invariant.0 in
    (one_entry _ _ _ _ _ _ _ _ (λ qs. refl) step.before so_far c.parameter-at.ensures step.next, c.parameter-at.auto.out ∙ c.loop-q.invariant.1, along along_it c.in-Some.ensures.steps)

pub returns : goal.returns
unfolding parameters_at
returns c = all_entries _ _ _ _ _ _ _ refl (over_end c.loop-q.invariant.2 c.in-None.ensures.steps) c.loop-q.invariant.0
