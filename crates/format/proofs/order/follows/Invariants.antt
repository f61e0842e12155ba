-- `follows`: what the parts left make of the field is what they all make of it.
use mathlib.Core.Path.{◌≡◌}
use Rattle.format.specs.Numbers.{parts_from}
use Rattle.format.specs.Coming.{comes}
use Rattle.format.proofs.order.follows.Given as goal

abbrev pub invariant-loop-left : goal.invariant-loop-left
invariant-loop-left l = comes (parts_from l.left) l.tag ≡ comes (parts_from l.parts) l.tag

abbrev pub decreases-loop-left : goal.decreases-loop-left
decreases-loop-left l = l.left
