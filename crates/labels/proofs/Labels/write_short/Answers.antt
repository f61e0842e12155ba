-- `Labels::write_short`: the 32 bytes are made, and stored as far as there is room.
use Rattle.labels.proofs.Places.{short_stored}
use Rattle.labels.proofs.Labels.write_short.Goals as goal

pub returns : goal.returns
returns c = short_stored _ _ c.args.self c.write_within.ensures c.copy_into.ensures
