-- `prepare_struck`: two words are stored.
use Rattle.explanation.proofs.Preparing.{struck_prepared}
use Rattle.explanation.proofs.prepare_struck.Goals as goal

pub returns : goal.returns
returns c = struck_prepared c.prepare.ensures c.set_word.auto.work c.set_word.ensures c.set_word-2.auto.work c.set_word-2.ensures
