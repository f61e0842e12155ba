-- `gather`: at the loop's head the items left make the whole.
use Rattle.definitions.proofs.Gathering.{Along}
use Rattle.wire.proofs.Walks as walks
use lib.ListN.{length}
use Rattle.definitions.proofs.gather.Given as goal

abbrev pub invariant-loop-p : goal.invariant-loop-p
invariant-loop-p l = walks.Along l.m (length l.m) l.p-iterator.bytes.now l.p-iterator.end × Along l.m l.initial.work l.work l.p-iterator.at
