-- `read_hex`: what is left to store at the loop's head makes the whole.
use Prim.Native.Nat.{◌-◌}
use lib.ListN.{length}
use Rattle.run_cases.proofs.Texts.{Reading}
use Rattle.run_cases.proofs.text.read_hex.Given as goal

abbrev pub invariant-loop-n : goal.invariant-loop-n
invariant-loop-n l = Reading l.text l.initial.into l.into l.n l.i

abbrev pub decreases-loop-n : goal.decreases-loop-n
decreases-loop-n l = length l.initial.into - l.n
