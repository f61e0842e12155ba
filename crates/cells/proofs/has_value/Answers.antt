-- `has_value`: whether the record of the slot's body holds something.
use Rattle.cells.proofs.SlotReads.{value_read}
use Rattle.cells.proofs.has_value.Goals as goal

pub returns : goal.returns
returns c = value_read _ _ c.requires.0 c.is_empty.ensures
