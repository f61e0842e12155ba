-- `run_item`: a node passed over, the node that runs, a definition, a statement.
use native.Mathlib.Omega.{arith}
use Rattle.rules.specs.Run.{top_context, node_context}
use Rattle.cells.specs.Scopes.{scope_of}
use Rattle.cells.specs.Memory.{base_for}
use Rattle.labels.specs.Sets.{no_labels}
use Rattle.compiler.proofs.Items.{passes_over, runs_node, stands_statement, runs_statement, passes_definition}
use Rattle.compiler.proofs.run_item.Goals as goal

pub returns-then-not-is_chosen : goal.returns-then-not-is_chosen
returns-then-not-is_chosen c = passes_over _ _ _ _ _ _ _ c.requires.0 c.requires.1 c.byte_at.ensures c.in-48.is c.is_chosen.ensures c.if-not-is_chosen.true-raw

pub run_statement-requires : goal.run_statement-requires
run_statement-requires c = (c.requires.0, (stands_statement _ _ c.requires.1 c.byte_at.ensures (omega arith) (omega arith), c.requires.1.names))

pub returns-else-not-is_chosen : goal.returns-else-not-is_chosen
unfolding no_labels node_context scope_of base_for
returns-else-not-is_chosen c = runs_node _ _ _ _ _ _ _ c.requires.0 c.requires.1 c.byte_at.ensures _ _ c.in-48.is c.is_chosen.ensures c.if-not-is_chosen.false-raw c.node_block-block.ensures c.run_block.ensures

pub returns-in-50 : goal.returns-in-50
returns-in-50 c = passes_definition _ _ _ _ _ _ _ c.requires.0 c.requires.1 c.byte_at.ensures c.in-50.is

pub returns-in_default : goal.returns-in_default
unfolding no_labels top_context scope_of base_for
returns-in_default c = runs_statement _ _ _ _ _ _ _ c.requires.0 c.requires.1 c.byte_at.ensures _ _ (omega arith) (omega arith) c.run_statement.ensures
