-- The cycle of `evaluate` and what it calls for expressions with parts: the measures and the answers of each member stand in the files below.
use Prim.Native.Nat.{◌+◌, ◌*◌}
use Rattle.evaluator.proofs.+attribute_read_choose_composed_evaluate_negation_operation_selector.Given as goal

abbrev pub decreases-attribute_read : goal.decreases-attribute_read
decreases-attribute_read l = 4 * l.below + 3

abbrev pub decreases-choose : goal.decreases-choose
decreases-choose l = 4 * l.inner + 2

abbrev pub decreases-composed : goal.decreases-composed
decreases-composed l = 4 * l.depth

abbrev pub decreases-evaluate : goal.decreases-evaluate
decreases-evaluate l = 4 * l.depth + 1

abbrev pub decreases-negation : goal.decreases-negation
decreases-negation l = 4 * l.below + 3

abbrev pub decreases-operation : goal.decreases-operation
decreases-operation l = 4 * l.below + 3

abbrev pub decreases-selector : goal.decreases-selector
decreases-selector l = 4 * l.below + 3
