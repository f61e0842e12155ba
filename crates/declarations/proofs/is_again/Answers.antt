-- `is_again`: asked or not.
use Rattle.declarations.proofs.Classes.{again_asked, again_not}
use Rattle.declarations.proofs.is_again.Goals as goal

pub returns-then-asked : goal.returns-then-asked
returns-then-asked c = again_asked _ _ c.if-asked.true c.is_declared.ensures

pub returns : goal.returns
returns c = again_not _ _ c.if-asked.false
