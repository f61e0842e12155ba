-- `try_patterns`: at the loop's head, what was tried and the patterns left give the whole.
use Rattle.wire.proofs.Walks.{Along}
use Rattle.patterns.proofs.Ways.{TriedTo}
use Rattle.patterns.proofs.try_patterns.Given as goal

abbrev pub invariant-loop-q : goal.invariant-loop-q
invariant-loop-q l = Along l.m l.end l.q-iterator.bytes.now l.q-iterator.end × TriedTo l.m l.from l.end l.x l.initial.set l.set l.default l.q-iterator.at
