-- `renew`: state, no value and no mark.
use Rattle.labels.specs.Sets.{no_labels}
use Rattle.cells.proofs.Slots.{renew_way}
use Rattle.cells.proofs.renew.Goals as goal

pub returns : goal.returns
unfolding no_labels
returns c = renew_way _ _ _ c.requires.0 c.requires.1 c.put_byte.ensures c.empty_record.ensures c.write_within.ensures
