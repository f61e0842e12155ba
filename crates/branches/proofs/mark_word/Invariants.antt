-- `mark_word`: at the loop's head the names left are those from `at` on; each turn takes the first of them.
use Prim.Native.Nat.{◌^◌, ◌<◌}
use Rattle.cells.specs.Scopes.{scope_of}
use Rattle.branches.specs.Names.{in_word}
use Rattle.branches.proofs.Names.{bits_from, Below}
use Rattle.branches.proofs.Marking.{ToMark}
use Rattle.branches.proofs.mark_word.Given as goal

abbrev pub invariant-loop-rest : goal.invariant-loop-rest
invariant-loop-rest l = ToMark l.initial.work l.work (scope_of l.scope) (bits_from l.at l.rest) (in_word l.i l.word) l.k × (Below (bits_from l.at l.rest) × (l.rest < 2 ^ 64))

abbrev pub decreases-loop-rest : goal.decreases-loop-rest
decreases-loop-rest l = l.rest
