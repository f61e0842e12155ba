-- The cycle of `statement` and what it calls for statements with blocks. Measures: below its own level, what a function calls has less.
use Prim.Native.Nat.{◌+◌, ◌-◌, ◌*◌}
use mathlib.Core.Path.{◌≡◌}
use lib.ListN.{length}
use Rattle.rules.specs.Compile.{string_at}
use Rattle.syntax.specs.Strings.{string_texts}
use Rattle.statement_printer.proofs.PrintedStatements.{StatementsTo}
use Rattle.statement_printer.proofs.PrintedBranches.{BranchesTo}
use Rattle.wire.proofs.Walks.{Along}
use Rattle.statement_printer.proofs.statements.+block_branch_branches_choice_conditional_in_braces_otherwise_statement.Given as goal

abbrev pub invariant-block-loop-q : goal.invariant-block-loop-q
invariant-block-loop-q l = StatementsTo (string_at (string_texts l.m.bytes.now)) l.m.bytes.now (l.depth - 1) (l.p + 3) l.end l.q-iterator.at l.initial.out l.out l.initial.at l.at × (length l.out ≡ length l.initial.out) × Along l.m.bytes.now l.end l.q-iterator.bytes.now l.q-iterator.end

abbrev pub invariant-branches-loop-q : goal.invariant-branches-loop-q
invariant-branches-loop-q l = BranchesTo (string_at (string_texts l.m.bytes.now)) l.m.bytes.now l.depth l.first l.end l.q-iterator.at l.initial.out l.out l.initial.at l.at × (length l.out ≡ length l.initial.out) × Along l.m.bytes.now l.end l.q-iterator.bytes.now l.q-iterator.end

abbrev pub decreases-block : goal.decreases-block
decreases-block l = 4 * l.depth

abbrev pub decreases-branch : goal.decreases-branch
decreases-branch l = 4 * l.depth

abbrev pub decreases-branches : goal.decreases-branches
decreases-branches l = 4 * l.depth + 1

abbrev pub decreases-choice : goal.decreases-choice
decreases-choice l = 4 * l.depth

abbrev pub decreases-conditional : goal.decreases-conditional
decreases-conditional l = 4 * l.depth

abbrev pub decreases-in_braces : goal.decreases-in_braces
decreases-in_braces l = 4 * l.depth + 1

abbrev pub decreases-otherwise : goal.decreases-otherwise
decreases-otherwise l = 4 * l.depth + 2

abbrev pub decreases-statement : goal.decreases-statement
decreases-statement l = 4 * l.depth + 1
