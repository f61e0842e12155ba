-- The cycle of blocks, statements and declarations: the measure of each member, and the invariant of a block's loop.
use Prim.Native.Nat.{◌-◌, ◌+◌, ◌*◌}
use Rattle.rules.specs.Run.{run_block, declaration}
use Rattle.places.specs.At.{block_at}
use Rattle.memory.specs.Contexts.{context_of}
use Rattle.execution.proofs.Blocks.{ToRun}
use Rattle.execution.proofs.+declare_class_declare_parent_declare_type_enter_class_gather_gather_class_gather_type_run_begun_run_block_run_body_run_case_run_class_run_given_run_if_run_include_run_statement_run_type.Given as goal

abbrev pub decreases-declare_class : goal.decreases-declare_class
decreases-declare_class l = l.left.now + 512 * l.levels

abbrev pub decreases-declare_parent : goal.decreases-declare_parent
decreases-declare_parent l = l.left.now + 512 * l.levels + 5

abbrev pub decreases-declare_type : goal.decreases-declare_type
decreases-declare_type l = l.left.now + 512 * l.levels

abbrev pub decreases-enter_class : goal.decreases-enter_class
decreases-enter_class l = l.left.now + 512 * l.levels + 256

abbrev pub decreases-gather : goal.decreases-gather
decreases-gather l = l.left.now + 512 * l.levels + 8 * l.depth + 3

abbrev pub decreases-gather_class : goal.decreases-gather_class
decreases-gather_class l = l.left.now + 512 * l.levels + 8 * l.depth + 2

abbrev pub decreases-gather_type : goal.decreases-gather_type
decreases-gather_type l = l.left.now + 512 * l.levels + 8 * l.depth + 2

abbrev pub decreases-run_begun : goal.decreases-run_begun
decreases-run_begun l = l.left.now + 512 * l.levels + 8 * l.depth + 6

abbrev pub decreases-run_block : goal.decreases-run_block
decreases-run_block l = l.left.now + 512 * l.levels + 8 * l.depth

abbrev pub decreases-run_body : goal.decreases-run_body
decreases-run_body l = l.left.now + 512 * l.levels + 256

abbrev pub decreases-run_case : goal.decreases-run_case
decreases-run_case l = l.left.now + 512 * l.levels + 8 * l.depth + 5

abbrev pub decreases-run_class : goal.decreases-run_class
decreases-run_class l = l.left.now + 512 * l.levels + 8 * l.depth + 5

abbrev pub decreases-run_given : goal.decreases-run_given
decreases-run_given l = l.left.now + 512 * l.levels + 8 * l.depth + 4

abbrev pub decreases-run_if : goal.decreases-run_if
decreases-run_if l = l.left.now + 512 * l.levels + 8 * l.depth + 5

abbrev pub decreases-run_include : goal.decreases-run_include
decreases-run_include l = l.left.now + 512 * l.levels + 5

abbrev pub decreases-run_statement : goal.decreases-run_statement
decreases-run_statement l = l.left.now + 512 * l.levels + 8 * l.depth + 7

abbrev pub decreases-run_type : goal.decreases-run_type
decreases-run_type l = l.left.now + 512 * l.levels + 8 * l.depth + 5

abbrev pub invariant-run_block-loop-q : goal.invariant-run_block-loop-q
invariant-run_block-loop-q l = ToRun l.m (l.depth - 1) l.levels l.q l.end l.initial.work l.work l.initial.out l.out l.fill l.filled l.initial.left l.left (context_of l.here) (λ k. run_block k (declaration k l.levels) (block_at l.m l.depth l.p))

abbrev pub decreases-run_block-loop-q : goal.decreases-run_block-loop-q
decreases-run_block-loop-q l = l.end - l.q
