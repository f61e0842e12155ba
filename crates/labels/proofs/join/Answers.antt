-- `join`: each of the four words is joined.
use Rattle.labels.proofs.Words.{words_joined}
use Rattle.labels.proofs.join.Goals as goal

pub returns : goal.returns
returns c = words_joined _ _ c.requires
