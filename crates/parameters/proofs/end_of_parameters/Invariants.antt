-- `end_of_parameters`: at the loop's head the 33s from q on are the last of those that begin at `from`. A 33 stands before the end of the bytes, so what is left of them falls.
use Prim.Native.Nat.{◌-◌}
use lib.ListN.{length}
use Rattle.parameters.proofs.Searches.{LastFrom}
use Rattle.parameters.proofs.end_of_parameters.Given as goal

abbrev pub invariant-loop-q : goal.invariant-loop-q
invariant-loop-q l = LastFrom l.m l.from l.q

abbrev pub decreases-loop-q : goal.decreases-loop-q
decreases-loop-q l = length l.m - l.q
