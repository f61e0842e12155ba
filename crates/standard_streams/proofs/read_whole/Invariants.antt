-- `read_whole`: as much of the buffer is filled as is kept.
use Prim.Native.Nat.{◌-◌, ◌≤◌}
use mathlib.Core.Path.{◌≡◌}
use lib.ListN.{length}
use Rattle.standard_streams.proofs.read_whole.Given as goal

abbrev pub invariant-loop-kept : goal.invariant-loop-kept
invariant-loop-kept g l = (length l.buffer ≡ length l.initial.buffer) × (l.kept ≤ length l.buffer)

abbrev pub decreases-loop-kept : goal.decreases-loop-kept
decreases-loop-kept g l = length l.initial.buffer - l.kept
