-- `is_device`: by the tag.
use Rattle.definitions.proofs.Nodes.{is_name, is_default_lem}
use Rattle.definitions.proofs.is_device.Goals as goal

pub returns-then-tag-eq49 : goal.returns-then-tag-eq49
returns-then-tag-eq49 c = is_name _ _ c.byte_at-tag.ensures c.if-tag-eq49.true

pub returns-else-tag-eq49 : goal.returns-else-tag-eq49
returns-else-tag-eq49 c = is_default_lem _ _ c.byte_at-tag.ensures c.if-tag-eq49.false
