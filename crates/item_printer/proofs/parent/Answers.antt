-- `parent`: by the tag.
use Rattle.item_printer.proofs.PrintedItems.{no_parent_passes, parent_passes}
use Rattle.item_printer.proofs.parent.Goals as goal

pub returns-then-byte_at-ne53 : goal.returns-then-byte_at-ne53
returns-then-byte_at-ne53 c = no_parent_passes _ _ _ c.byte_at.ensures c.if-byte_at-ne53.true

pub returns : goal.returns
returns c = parent_passes _ _ _ c.byte_at.ensures c.if-byte_at-ne53.false c.two_at.ensures c.write_mark-word.ensures c.write_word.ensures
