-- `find_unknown`: at the loop's head the first unknown name among those that are left is the first of all.
use Rattle.wire.specs.Bytes.{fields_in}
use Rattle.wire.proofs.Walks.{Along}
use Rattle.parameters.proofs.Searches.{Unknown}
use Rattle.parameters.proofs.find_unknown.Given as goal

abbrev pub invariant-loop-q : goal.invariant-loop-q
invariant-loop-q l = Along l.m l.end l.q-iterator.bytes.now l.q-iterator.end × Unknown l.m (fields_in l.m l.from l.to) l.first l.end l.q-iterator.at
