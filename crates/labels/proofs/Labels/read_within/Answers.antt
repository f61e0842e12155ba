-- `read_within`: the four words.
use Rattle.labels.proofs.Places.{words_read}
use Rattle.labels.proofs.Labels.read_within.Goals as goal

pub returns : goal.returns
returns c = words_read _ _ c.read_word.ensures c.read_word-2.ensures c.read_word-3.ensures c.read_word-4.ensures
