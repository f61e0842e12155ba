-- `lowest_place`: at the loop's head the compile comes to none before `low`, and to one before `high`.
use Prim.Native.Nat.{◌-◌}
use mathlib.Core.Path.{◌≡◌}
use lib.ListN.{length}
use Rattle.type_list.specs.Listed.{chosen}
use Rattle.explanation.proofs.Searching.{Between}
use Rattle.explanation.proofs.lowest_place.Given as goal

abbrev pub invariant-loop-low : goal.invariant-loop-low
invariant-loop-low l = (length l.out ≡ length l.initial.out) × ((length l.work ≡ length l.initial.work) × Between (chosen l.types) l.m l.device l.label l.low l.high)

abbrev pub decreases-loop-low : goal.decreases-loop-low
decreases-loop-low l = l.high - l.low
