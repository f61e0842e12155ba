-- `number_slow`: at the loop's head the number of the bytes that are left, read after those passed, is the whole.
use mathlib.Core.Path.{◌≡◌}
use Prim.Native.Nat.{◌-◌, ◌^◌, ◌≤◌, ◌<◌}
use Rattle.wire.specs.Numbers.{number}
use Rattle.wire.specs.Runs.{bytes_at}
use Rattle.wire.proofs.number_slow.Given as goal

abbrev pub invariant-loop-left : goal.invariant-loop-left
invariant-loop-left l = (l.left ≤ 8) × (l.n < 256 ^ (8 - l.left)) × (number (bytes_at l.m l.p l.left) l.n ≡ number (bytes_at l.m l.i 8) 0)

abbrev pub decreases-loop-left : goal.decreases-loop-left
decreases-loop-left l = l.left
