-- The cycle of `expression` and what it calls for expressions with parts. Measures: below its own level, what a function calls has less.
use Prim.Native.Nat.{◌+◌, ◌*◌}
use mathlib.Core.Path.{◌≡◌}
use lib.ListN.{length}
use Rattle.rules.specs.Compile.{string_at}
use Rattle.syntax.specs.Strings.{string_texts}
use Rattle.statement_printer.proofs.PrintedArms.{ArmsTo}
use Rattle.wire.proofs.Walks.{Along}
use Rattle.statement_printer.proofs.expressions.+arm_arms_attribute_read_expression_negation_operation_selector.Given as goal

abbrev pub invariant-arms-loop-q : goal.invariant-arms-loop-q
invariant-arms-loop-q l = ArmsTo (string_at (string_texts l.m.bytes.now)) l.m.bytes.now (l.inner + 1) l.first l.end l.q-iterator.at l.later l.initial.out l.out l.initial.at l.at × (length l.out ≡ length l.initial.out) × Along l.m.bytes.now l.end l.q-iterator.bytes.now l.q-iterator.end

abbrev pub decreases-arm : goal.decreases-arm
decreases-arm l = 4 * l.inner + 1

abbrev pub decreases-arms : goal.decreases-arms
decreases-arms l = 4 * l.inner + 2

abbrev pub decreases-attribute_read : goal.decreases-attribute_read
decreases-attribute_read l = 4 * l.below + 3

abbrev pub decreases-expression : goal.decreases-expression
decreases-expression l = 4 * l.depth

abbrev pub decreases-negation : goal.decreases-negation
decreases-negation l = 4 * l.below + 3

abbrev pub decreases-operation : goal.decreases-operation
decreases-operation l = 4 * l.below + 3

abbrev pub decreases-selector : goal.decreases-selector
decreases-selector l = 4 * l.below + 3
