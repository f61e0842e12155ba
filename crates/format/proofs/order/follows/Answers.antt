-- `follows`: what the parts left make of the field is what they all make of it.
use mathlib.Core.Path.{◌∙◌}
use Rattle.format.proofs.Steps.{none_left_over}
use Rattle.format.proofs.order.follows.Goals as goal

pub returns-in-Parts : goal.returns-in-Parts
returns-in-Parts c = c.in-Parts.ensures ∙ c.loop-left.invariant

pub returns-in-Refuses : goal.returns-in-Refuses
returns-in-Refuses c = c.in-Refuses.ensures ∙ c.loop-left.invariant

pub returns : goal.returns
returns c = none_left_over _ _ c.loop-left-test.false ∙ c.loop-left.invariant
