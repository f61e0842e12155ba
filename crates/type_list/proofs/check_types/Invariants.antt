-- `check_types`: what is left to check decides.
use Prim.Native.Nat.{◌-◌}
use lib.ListN.{length}
use Rattle.type_list.proofs.Checking.{Left}
use Rattle.type_list.proofs.check_types.Given as goal

abbrev pub invariant-loop-q : goal.invariant-loop-q
invariant-loop-q l = Left l.list l.more l.start l.q

abbrev pub decreases-loop-q : goal.decreases-loop-q
decreases-loop-q l = length l.list - l.q
