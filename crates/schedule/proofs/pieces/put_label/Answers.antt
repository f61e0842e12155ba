-- `put_label`: the label, with a comma before it unless it is the first.
use Rattle.schedule.specs.Appending.{one_label_text}
use Rattle.schedule.proofs.Appending.{then_piece}
use Rattle.schedule.proofs.pieces.put_label.Goals as goal

pub returns-then-first : goal.returns-then-first
unfolding one_label_text
returns-then-first c = rw c.if-first.true c.put_number.ensures

pub returns : goal.returns
unfolding one_label_text
returns c = rw c.if-first.false (then_piece _ _ _ _ c.put_text-comma.ensures c.put_number-2.ensures)
