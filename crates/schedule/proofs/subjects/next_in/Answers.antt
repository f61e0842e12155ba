-- `next_in`: the next entry, or the next attribute.
use Rattle.schedule.proofs.Tests.{next_entry, next_attribute}
use Rattle.schedule.proofs.subjects.next_in.Goals as goal

pub returns-then-q-e : goal.returns-then-q-e
returns-then-q-e c = next_entry _ _ _ c.if-q-e.true

pub returns : goal.returns
returns c = next_attribute _ _ _ c.if-q-e.false
