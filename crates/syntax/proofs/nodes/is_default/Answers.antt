-- `is_default`: a node whose first field is a default.
use native.Mathlib.Omega.{arith}
use Rattle.syntax.proofs.Chosen.{no_node_default, node_default}
use Rattle.syntax.proofs.nodes.is_default.Goals as goal

pub returns-then-byte_at-ne48 : goal.returns-then-byte_at-ne48
returns-then-byte_at-ne48 c = no_node_default _ _ c.byte_at.ensures c.if-byte_at-ne48.true

pub overflow_add-p : goal.overflow_add-p
overflow_add-p c = omega (arith, c.requires)

pub returns : goal.returns
returns c = node_default _ _ c.byte_at.ensures c.if-byte_at-ne48.false c.byte_at-2.ensures
