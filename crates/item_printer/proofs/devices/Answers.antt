-- `devices`: at the loop's head, what is written and the devices left give the whole.
use mathlib.Core.Path.{◌≡◌, refl, ◌∙◌}
use native.Mathlib.Omega.{arith}
use Rattle.places.specs.At.{names_at}
use Rattle.statement_printer.proofs.PrintedEntries.{no_entry_yet, one_entry, all_entries}
use Rattle.wire.proofs.Walks.{step_of, here, along, over_end}
use Rattle.item_printer.proofs.devices.Goals as goal

pub loop-q-init : goal.loop-q-init
loop-q-init c =
    let at : c.into_iter-q-iterator.result.at ≡ c.args.first = cc in
    (rw at (no_entry_yet _ _ _ _ _ _ _ c.requires.1), refl, record { bytes = cc; end = cc })

pub device-at-requires : goal.device-at-requires
device-at-requires c = (c.requires.0, omega (arith, (step_of c.loop-q.invariant.2 c.in-Some.ensures.steps).before, c.requires.2))

pub loop-q-preserved : goal.loop-q-preserved
unfolding names_at
loop-q-preserved c =
    let along_it = c.loop-q.invariant.2 in
    let step = step_of along_it c.in-Some.ensures.steps in
    let so_far = rw (here along_it c.in-Some.ensures.steps) at c.loop-q.invariant.0 in
    (one_entry _ _ _ _ _ _ _ _ (λ qs. refl) step.before so_far c.device-at.ensures step.next, c.device-at.auto.out ∙ c.loop-q.invariant.1, along along_it c.in-Some.ensures.steps)

pub returns : goal.returns
unfolding names_at
returns c = all_entries _ _ _ _ _ _ _ refl (over_end c.loop-q.invariant.2 c.in-None.ensures.steps) c.loop-q.invariant.0
