-- `run_items`: at the loop's head the items left make the whole run of what the bytes stand for.
use Rattle.wire.proofs.Walks as walks
use Rattle.compiler.proofs.Items.{Along}
use Rattle.compiler.specs.Running.{chosen_of}
use lib.ListN.{length}
use Rattle.compiler.proofs.run_items.Given as goal

abbrev pub invariant-loop-p : goal.invariant-loop-p
invariant-loop-p l = walks.Along l.m (length l.m) l.p-iterator.bytes.now l.p-iterator.end × Along l.m l.initial.work l.work l.initial.out l.out l.initial.left l.left l.filled (chosen_of l.node) l.p-iterator.at
