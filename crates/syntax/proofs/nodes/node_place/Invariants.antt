-- `node_place`: the items left, with the default node met, give the node that runs.
use lib.ListN.{length}
use Rattle.wire.proofs.Walks.{Along, left}
use Rattle.syntax.proofs.Chosen.{Looking}
use Rattle.syntax.proofs.nodes.node_place.Given as goal

abbrev pub invariant-loop-p : goal.invariant-loop-p
invariant-loop-p l = Along l.m (length l.m) l.p-iterator.bytes.now l.p-iterator.end × Looking l.m l.device (left l.p-iterator) l.default
