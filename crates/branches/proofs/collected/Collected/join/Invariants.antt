-- `join`: a word at a time.
use Rattle.branches.proofs.Joining.{Joining}
use Rattle.branches.proofs.collected.Collected.join.Given as goal

abbrev pub invariant-loop-i : goal.invariant-loop-i
invariant-loop-i l = Joining l.more.names l.fn.self.names l.i l.word-items
