-- `enter_one`: the string is entered, and its number fits two bytes.
use Rattle.parser.proofs.Entering.{one_entered}
use Rattle.parser.proofs.strings.enter_one.Goals as goal

pub returns : goal.returns
returns c = one_entered _ _ _ _ _ _ _ c.requires.0 c.enter-one.ensures
