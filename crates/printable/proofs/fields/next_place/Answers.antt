-- `next_place`: by the line of the tag.
use Rattle.printable.proofs.InOrder.{next_there}
use Rattle.printable.proofs.fields.next_place.Goals as goal

pub returns : goal.returns
returns c = next_there _ _ c.byte_in.ensures c.length_at.ensures (c.stride.ensures _ c.line_of-line.ensures)
