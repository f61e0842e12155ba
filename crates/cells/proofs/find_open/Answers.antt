-- `find_open`: the hint is believed, or the slots are walked.
use Rattle.cells.specs.Slots.{opened}
use Rattle.cells.proofs.find_open.Goals as goal

pub returns-then-is_next : goal.returns-then-is_next
returns-then-is_next c = opened (c.is_next.ensures c.if-is_next.true)
