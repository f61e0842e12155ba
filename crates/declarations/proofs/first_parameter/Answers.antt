-- `first_parameter`: after the parent, or after the name.
use Rattle.declarations.proofs.Classes.{after_parent_lem, after_name_lem}
use Rattle.declarations.proofs.first_parameter.Goals as goal

pub returns-then-byte_at-eq53 : goal.returns-then-byte_at-eq53
returns-then-byte_at-eq53 c = after_parent_lem _ _ c.byte_at.ensures c.if-byte_at-eq53.true c.end_of.ensures

pub returns-else-byte_at-eq53 : goal.returns-else-byte_at-eq53
returns-else-byte_at-eq53 c = after_name_lem _ _ c.byte_at.ensures c.if-byte_at-eq53.false
