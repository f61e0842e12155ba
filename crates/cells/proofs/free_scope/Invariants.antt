-- `free_scope`: at the loop's head the slots below i are freed, and nothing beside the slots has changed.
use mathlib.Core.Path.{◌≡◌}
use lib.ListN.{length}
use Rattle.cells.specs.Layout.{slots_of, beside_slots}
use Rattle.cells.proofs.Free.{freed_to}
use Rattle.cells.proofs.free_scope.Given as goal

abbrev pub invariant-loop-i : goal.invariant-loop-i
invariant-loop-i l = (length l.work ≡ length l.initial.work) × ((slots_of l.work ≡ freed_to l.i l.scope (slots_of l.initial.work)) × (beside_slots l.work ≡ beside_slots l.initial.work))
