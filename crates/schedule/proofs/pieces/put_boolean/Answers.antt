-- `put_boolean`: by the test.
use Rattle.rules.specs.Schedule.{boolean_text}
use Rattle.schedule.proofs.pieces.put_boolean.Goals as goal

pub returns-then-b : goal.returns-then-b
unfolding boolean_text
returns-then-b c = rw c.if-b.true c.put_text.ensures

pub returns : goal.returns
unfolding boolean_text
returns c = rw c.if-b.false c.put_text-2.ensures
