-- `take`: the symbols that are left out one after the other, up to the one that takes the token.
use Rattle.parser.proofs.Passing.{Going}
use Rattle.parser.proofs.steps.take.Given as goal

abbrev pub invariant-loop-below : goal.invariant-loop-below
invariant-loop-below l = Going l.initial.stack l.initial.frames l.initial.out l.initial.building l.top l.token l.names l.stack l.frames l.out l.building l.below
