-- `recall`: a word at a time.
use Rattle.cells.specs.Layout.{summary_names}
use Rattle.summaries.specs.Lines.{numbers_at, line_of}
use Rattle.branches.proofs.Joining.{Joining}
use Rattle.summaries.proofs.recall.Given as goal

abbrev pub invariant-loop-i : goal.invariant-loop-i
invariant-loop-i l = Joining (numbers_at (line_of l.work l.line) summary_names 16) l.fn.collected.names l.i l.word-items
