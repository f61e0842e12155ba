-- `clear`: what is left to store at the loop's head makes the whole.
use mathlib.Core.Path.{◌≡◌}
use Prim.Native.Nat.{◌-◌}
use Rattle.wire.specs.Runs.{over, zeros}
use Rattle.wire.proofs.clear.Given as goal

abbrev pub invariant-loop-p : goal.invariant-loop-p
invariant-loop-p l = over l.out l.p (zeros (l.to - l.p)) ≡ over l.initial.out l.from (zeros (l.to - l.from))

abbrev pub decreases-loop-p : goal.decreases-loop-p
decreases-loop-p l = l.to - l.p
