-- `mark_names`: an empty set leaves nothing to mark; at the loop's head the names left are those of the words from i on.
use Rattle.cells.specs.Scopes.{scope_of}
use Rattle.branches.specs.Names.{contains}
use Rattle.branches.proofs.Names.{words_from}
use Rattle.branches.proofs.Marking.{ToMark}
use Rattle.branches.proofs.mark_names.Given as goal

abbrev pub invariant-loop-i : goal.invariant-loop-i
invariant-loop-i l = ToMark l.initial.work l.work (scope_of l.scope) (words_from l.i l.names) (contains l.names) l.k
