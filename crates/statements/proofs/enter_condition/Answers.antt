-- `enter_condition`: the names and declarations of the text, and then the marks and the trail.
use mathlib.Core.Path.{refl}
use Rattle.statements.proofs.Entering.{condition_entered}
use Rattle.statements.proofs.enter_condition.Goals as goal

pub returns : goal.returns
returns c = condition_entered _ _ _ refl refl c.summarize.ensures c.enter.ensures
