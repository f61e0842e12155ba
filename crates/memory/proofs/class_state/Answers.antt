-- `class_state`: one way for each base.
use mathlib.Core.Path.{sym, ap}
use Rattle.memory.specs.Names.{class_state}
use Rattle.memory.proofs.class_state.Goals as goal

pub returns-then-base_is_node : goal.returns-then-base_is_node
unfolding class_state
returns-then-base_is_node c = sym (ap class_state c.if-base_is_node.true)

pub returns-else-base_is_node : goal.returns-else-base_is_node
unfolding class_state
returns-else-base_is_node c = sym (ap class_state c.if-base_is_node.false)
