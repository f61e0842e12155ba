-- `find_missing`: at the loop's head the first without a value among those that are left is the first of all.
use Rattle.wire.proofs.Walks.{Along}
use Rattle.parameters.proofs.Searches.{Missing}
use Rattle.parameters.proofs.find_missing.Given as goal

abbrev pub invariant-loop-q : goal.invariant-loop-q
invariant-loop-q l = Along l.m l.to l.q-iterator.bytes.now l.q-iterator.end × Missing l.m l.table l.from l.to l.q-iterator.at
