-- `next_of`: the link of a slot or of the head, if it counts.
use Rattle.cells.proofs.SlotReads.{next_by}
use Rattle.cells.proofs.next_of.Goals as goal

pub returns : goal.returns
returns c = next_by _ _ _ c.requires.1.0 c.link_place.ensures.0 c.two_in-link.ensures c.counted_link.ensures
