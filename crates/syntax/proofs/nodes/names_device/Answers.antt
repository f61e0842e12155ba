-- `names_device`: a node, and one of its names.
use Prim.Native.Nat.{◌+◌}
use native.Mathlib.Omega.{arith}
use Rattle.rules.specs.Bytes.{two}
use Rattle.syntax.proofs.Chosen.{no_node_names, node_names}
use Rattle.syntax.proofs.nodes.names_device.Goals as goal

pub returns-then-byte_at-ne48 : goal.returns-then-byte_at-ne48
returns-then-byte_at-ne48 c = no_node_names _ _ c.byte_at.ensures _ c.if-byte_at-ne48.true

pub overflow_add-p : goal.overflow_add-p
overflow_add-p c = omega (arith, c.requires.1)

pub end_of-requires : goal.end_of-requires
end_of-requires c = omega (arith, c.requires.1)

pub some_names-requires : goal.some_names-requires
unfolding two
some_names-requires c = (c.requires.0, omega (arith, c.requires.1, c.end_of.ensures, c.type_inv.m (c.args.p + 1), c.type_inv.m (c.args.p + 1 + 1)))

pub returns : goal.returns
returns c = node_names _ _ c.byte_at.ensures _ c.if-byte_at-ne48.false c.end_of.ensures c.some_names.ensures
