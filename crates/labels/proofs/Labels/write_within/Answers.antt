-- `Labels::write_within` stores the four words.
use Rattle.labels.proofs.Laws.{label_stored}
use Rattle.labels.proofs.Labels.write_within.Goals as goal

pub returns : goal.returns
returns c = label_stored c.args.self _ _ c.put_word.ensures c.put_word-2.ensures c.put_word-3.ensures c.put_word-4.ensures
