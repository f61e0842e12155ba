-- `choose_node`: the table of places has room for 1,024 strings.
use native.Mathlib.Omega.{arith}
use Rattle.definitions.proofs.Marking.{node_table}
use Rattle.definitions.proofs.choose_node.Goals as goal

pub node_place-requires : goal.node_place-requires
node_place-requires c = (node_table _ _ c.requires.0 c.requires.1 (omega arith) c.index_strings-strings.ensures.0 c.index_strings-strings.ensures.1, c.requires.1)
