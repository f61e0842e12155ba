-- `store_parameters`: at the loop's head the parameters that are left, stored from here, are all of them stored from the start.
use mathlib.Core.Path.{◌≡◌}
use lib.ListN.{length}
use Rattle.wire.proofs.Walks.{Along}
use Rattle.parameters.proofs.Storing.{Storing}
use Rattle.parameters.proofs.store_parameters.Given as goal

abbrev pub invariant-loop-q : goal.invariant-loop-q
invariant-loop-q l = Along l.m l.fn.parameters.end l.q-iterator.bytes.now l.q-iterator.end × (length l.work ≡ length l.initial.work) × Storing l.m l.table l.initial.work l.work l.fn.parameters.first l.fn.parameters.end l.q-iterator.at l.here
