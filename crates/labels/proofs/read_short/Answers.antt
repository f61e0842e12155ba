-- `read_short`: nothing is there, or a part.
use Rattle.labels.specs.Sets.{no_labels}
use Rattle.labels.proofs.Places.{nothing_read, short_read}
use Rattle.labels.proofs.read_short.Goals as goal

pub returns-then-bytes-at : goal.returns-then-bytes-at
unfolding no_labels
returns-then-bytes-at c = nothing_read _ _ c.if-bytes-at.true

pub returns : goal.returns
returns c = short_read _ _ c.copy_into.ensures c.read_within.ensures
