-- `evaluate_attributes`: at the loop's head the attributes up to there are evaluated into the table, which is as long as it was, and has rows for the others.
use mathlib.Core.Path.{◌≡◌}
use lib.ListN.{length}
use Rattle.wire.specs.Bytes.{fields_in}
use Rattle.wire.proofs.Walks.{Along}
use Rattle.attributes.specs.Table.{Rows}
use Rattle.attributes.proofs.Evaluating.{Evaluating}
use Rattle.attributes.proofs.evaluate_attributes.Given as goal

abbrev pub invariant-loop-q : goal.invariant-loop-q
invariant-loop-q l = Along l.m l.fn.span.end l.q-iterator.bytes.now l.q-iterator.end × Evaluating l.m l.work l.out l.fill l.scope l.depth l.fn.span.first l.fn.span.end l.q-iterator.at l.table × Rows l.m (length l.initial.table) (fields_in l.m l.q-iterator.at l.fn.span.end) × (length l.table ≡ length l.initial.table)
