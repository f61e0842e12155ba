-- `put_names`: a number at a time.
use Rattle.summaries.proofs.Lines.{Storing}
use Rattle.summaries.proofs.put_names.Given as goal

abbrev pub invariant-loop-i : goal.invariant-loop-i
invariant-loop-i l = Storing l.names l.initial.work l.at l.i l.work
