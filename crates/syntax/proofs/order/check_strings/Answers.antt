-- `check_strings`: what the strings from here on give is what they all give.
use mathlib.Core.Path.{◌∙◌}
use Rattle.syntax.proofs.Rise.{first_string, rises, falls, last_string}
use Rattle.syntax.proofs.order.check_strings.Goals as goal

pub loop-q-init : goal.loop-q-init
loop-q-init c = first_string _ _ c.text_of-last.ensures c.end_of.ensures cc

pub returns-then-not-comes_before : goal.returns-then-not-comes_before
returns-then-not-comes_before c = c.at.ensures ∙ falls _ _ c.in-Some.ensures.steps.left c.text_of-text.ensures c.comes_before.ensures c.if-not-comes_before.true c.loop-q.invariant

pub loop-q-preserved : goal.loop-q-preserved
loop-q-preserved c = rises _ _ c.in-Some.ensures.steps.left c.text_of-text.ensures c.comes_before.ensures c.if-not-comes_before.false c.loop-q.invariant

pub returns : goal.returns
returns c = last_string _ _ c.in-None.ensures.steps.left c.loop-q.invariant
