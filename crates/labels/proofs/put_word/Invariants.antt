-- `put_word`: what is left to store at the loop's head makes the whole.
use mathlib.Core.Path.{◌≡◌}
use Prim.Native.Nat.{◌+◌, ◌-◌, ◌≤◌}
use lib.ListN.{length}
use Rattle.wire.specs.Runs.{over}
use Rattle.labels.specs.Bytes.{low_bytes}
use Rattle.labels.proofs.put_word.Given as goal

abbrev pub invariant-loop-i : goal.invariant-loop-i
invariant-loop-i l = (l.i ≤ 8) × (length l.out ≡ length l.initial.out) × (over l.out (l.at + l.i) (low_bytes (8 - l.i) l.left) ≡ over l.initial.out l.at (low_bytes 8 l.word))

abbrev pub decreases-loop-i : goal.decreases-loop-i
decreases-loop-i l = 8 - l.i
