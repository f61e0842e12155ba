-- `put_number`: what is left to store at the loop's head makes the whole.
use mathlib.Core.Path.{◌≡◌}
use Prim.Native.Nat.{◌≤◌}
use Rattle.wire.specs.Numbers.{high_bytes}
use Rattle.wire.specs.Runs.{over}
use Rattle.wire.proofs.put_number.Given as goal

abbrev pub invariant-loop-left : goal.invariant-loop-left
invariant-loop-left l = (l.left ≤ 8) × (over l.out l.p (high_bytes l.left l.n) ≡ over l.initial.out l.at (high_bytes l.width l.n))

abbrev pub decreases-loop-left : goal.decreases-loop-left
decreases-loop-left l = l.left
