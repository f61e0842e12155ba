-- `move_up`: what stands from a place on is moved, at each turn one byte more.
use mathlib.Core.Path.{◌≡◌}
use Prim.Native.Nat.{◌+◌, ◌-◌, ◌≤◌}
use Rattle.wire.specs.Runs.{bytes_at, over}
use Rattle.tree_builder.proofs.move_up.Given as goal

abbrev pub invariant-loop-p : goal.invariant-loop-p
invariant-loop-p l = (l.from ≤ l.p) × (l.p ≤ l.to) × (l.out ≡ over l.initial.out (l.p + l.by) (bytes_at l.initial.out l.p (l.to - l.p)))

abbrev pub decreases-loop-p : goal.decreases-loop-p
decreases-loop-p l = l.p - l.from
