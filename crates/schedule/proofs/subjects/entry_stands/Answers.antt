-- `entry_stands`: tag, length and end in turn.
use Rattle.schedule.proofs.Tests.{no_entry, short_entry, entry_end}
use Rattle.schedule.proofs.subjects.entry_stands.Goals as goal

pub returns-then-byte_at-ne64 : goal.returns-then-byte_at-ne64
returns-then-byte_at-ne64 c = no_entry _ _ c.byte_at.ensures c.if-byte_at-ne64.true

pub returns-then-length_at-lt-BEFORE_ATTRIBUTES : goal.returns-then-length_at-lt-BEFORE_ATTRIBUTES
returns-then-length_at-lt-BEFORE_ATTRIBUTES c = short_entry _ _ c.byte_at.ensures c.if-byte_at-ne64.false c.length_at.ensures c.if-length_at-lt-BEFORE_ATTRIBUTES.true

pub returns : goal.returns
returns c = entry_end _ _ c.byte_at.ensures c.if-byte_at-ne64.false c.length_at.ensures c.if-length_at-lt-BEFORE_ATTRIBUTES.false c.end_of.ensures
