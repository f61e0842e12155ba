-- `may_end`: whether the parts left may be missing is whether they all may.
use mathlib.Core.Path.{◌≡◌}
use Prim.Native.Nat.{◌≤◌}
use Rattle.format.specs.Numbers.{parts_from}
use Rattle.format.specs.Coming.{complete}
use Rattle.format.proofs.order.may_end.Given as goal

abbrev pub invariant-loop-left : goal.invariant-loop-left
invariant-loop-left l = (l.left ≤ l.parts) × (complete (parts_from l.left) ≡ complete (parts_from l.parts))

abbrev pub decreases-loop-left : goal.decreases-loop-left
decreases-loop-left l = l.left
