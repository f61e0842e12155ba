-- `Labels::next`: at the loop's head the search from `at` finds what the whole search finds.
use mathlib.Core.Path.{◌≡◌}
use Prim.Native.Nat.{◌-◌}
use Rattle.labels.specs.Search.{next_from}
use Rattle.labels.proofs.Labels.next.Given as goal

abbrev pub invariant-loop-at : goal.invariant-loop-at
invariant-loop-at l = next_from l.self l.at ≡ next_from l.self l.from

abbrev pub decreases-loop-at : goal.decreases-loop-at
decreases-loop-at l = 256 - l.at
