-- `attribute_stands`: tag, end, the value's end and the value's field in turn.
use Rattle.schedule.proofs.Tests.{no_attribute, past_entry, other_end, value_tested}
use Rattle.schedule.proofs.subjects.attribute_stands.Goals as goal

pub returns-then-byte_at-ne65 : goal.returns-then-byte_at-ne65
returns-then-byte_at-ne65 c = no_attribute _ _ _ c.byte_at.ensures c.if-byte_at-ne65.true

pub returns-then-e-end : goal.returns-then-e-end
returns-then-e-end c = past_entry _ _ _ c.byte_at.ensures c.if-byte_at-ne65.false c.end_of-end.ensures c.if-e-end.true

pub returns-then-end_of-end : goal.returns-then-end_of-end
returns-then-end_of-end c = other_end _ _ _ c.byte_at.ensures c.if-byte_at-ne65.false c.end_of-end.ensures c.if-e-end.false c.end_of.ensures c.if-end_of-end.true

pub returns : goal.returns
returns c = value_tested _ _ _ c.byte_at.ensures c.if-byte_at-ne65.false c.end_of-end.ensures c.if-e-end.false c.end_of.ensures c.if-end_of-end.false c.byte_at-2.ensures c.length_at.ensures c.value_right.ensures
