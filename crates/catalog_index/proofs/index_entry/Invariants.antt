-- `index_entry`: a record for the entry, and at the loop's head the attributes from q on are still to come.
use Rattle.wire.proofs.Walks.{Along}
use Rattle.catalog_index.proofs.Extending.{Goes}
use Rattle.catalog_index.proofs.index_entry.Given as goal

abbrev pub invariant-loop-q : goal.invariant-loop-q
invariant-loop-q l = Along l.out l.end l.q-iterator.bytes.now l.q-iterator.end × Goes l.out l.entry l.end l.initial.q-iterator.at l.initial.work l.q-iterator.at l.work
