-- The walk: a block looks at its statements one level down, and an if or a case at its blocks. The measure is the depth; the statements of a block come before
use mathlib.Core.Path.{refl}
use native.Mathlib.Omega.{arith}
use Rattle.branches.proofs.Standing.{has_level, has_header, header_at, name_within, condition_header, scrutinee_header, if_blocks, case_branches, block_statements, sibling_here, siblings_after, branch_block, branch_ends, pattern_header}
use Rattle.branches.proofs.Texts.{assignment_text, conditional_text, choice_text, declaring_text, other_text, block_text, statements_text, no_statement_text, empty_block_text, branches_text, no_branch_text, small_first, small_same, small_named, second_block, collects_same, collects_none, collects_declares, collects_then, collecting, collected_all, here_small, collected_here}
use Rattle.branches.proofs.+collect_any_collect_at_collect_both_collect_in_collect_statements.Goals as goal

pub collect_any-loop-q-init : goal.collect_any-loop-q-init
collect_any-loop-q-init t c = (c.requires.1.0, collecting _ c.requires.1.1)

pub collect_any-overflow_add-q : goal.collect_any-overflow_add-q
collect_any-overflow_add-q t c = omega (arith, c.requires.0, has_header (sibling_here c.loop-q.invariant.0 c.loop-q-test.true))

pub collect_any-end_in-block-requires : goal.collect_any-end_in-block-requires
collect_any-end_in-block-requires t c = header_at (pattern_header (sibling_here c.loop-q.invariant.0 c.loop-q-test.true)) c.requires.0

pub collect_any-end_in-next-requires : goal.collect_any-end_in-next-requires
collect_any-end_in-next-requires t c = header_at (has_header (sibling_here c.loop-q.invariant.0 c.loop-q-test.true)) c.requires.0

pub collect_any-overflow_sub-depth : goal.collect_any-overflow_sub-depth
collect_any-overflow_sub-depth t c = omega (arith, has_level (sibling_here c.loop-q.invariant.0 c.loop-q-test.true))

pub collect_any-collect_in-requires : goal.collect_any-collect_in-requires
collect_any-collect_in-requires t c =
    let here = sibling_here c.loop-q.invariant.0 c.loop-q-test.true in
    let small = here_small c.loop-q.invariant.1 _ _ (branches_text c.loop-q.invariant.0 c.loop-q-test.true c.end_in-block.ensures refl) in
    (omega (arith, has_level here), (c.requires.0, ((branch_block here c.end_in-block.ensures, small), branch_ends here c.end_in-block.ensures c.end_in-next.ensures)))

pub collect_any-loop-q-smaller : goal.collect_any-loop-q-smaller
collect_any-loop-q-smaller t c = omega (arith, c.loop-q-test.true, c.end_in-next.ensures)

pub collect_any-loop-q-preserved : goal.collect_any-loop-q-preserved
collect_any-loop-q-preserved t c = (siblings_after c.loop-q.invariant.0 c.loop-q-test.true c.end_in-next.ensures, collected_here c.loop-q.invariant.1 _ _ (branches_text c.loop-q.invariant.0 c.loop-q-test.true c.end_in-block.ensures c.end_in-next.ensures) c.collect_in.ensures)

pub collect_any-returns : goal.collect_any-returns
collect_any-returns t c = collected_all c.loop-q.invariant.1 (no_branch_text c.loop-q.invariant.0 c.loop-q-test.false)

pub collect_at-byte_in-requires : goal.collect_at-byte_in-requires
collect_at-byte_in-requires t c = omega (arith, has_header c.requires.1.0)

pub collect_at-overflow_add-p : goal.collect_at-overflow_add-p
collect_at-overflow_add-p t c = omega (arith, c.requires.0, has_header c.requires.1.0)

pub collect_at-two_in-requires : goal.collect_at-two_in-requires
collect_at-two_in-requires t c = name_within c.requires.1.0 c.byte_in.ensures c.in-33.is

pub collect_at-insert-requires : goal.collect_at-insert-requires
collect_at-insert-requires t c = small_named _ c.requires.1.1 (assignment_text c.requires.1.0 c.byte_in.ensures c.in-33.is c.two_in.ensures)

pub collect_at-overflow_sub-depth : goal.collect_at-overflow_sub-depth
collect_at-overflow_sub-depth t c = omega (arith, has_level c.requires.1.0)

pub collect_at-overflow_add-p-in-34 : goal.collect_at-overflow_add-p-in-34
collect_at-overflow_add-p-in-34 t c = omega (arith, c.requires.0, has_header c.requires.1.0)

pub collect_at-end_in-requires : goal.collect_at-end_in-requires
collect_at-end_in-requires t c = header_at (condition_header c.requires.1.0 c.byte_in.ensures c.in-34.is) c.requires.0

pub collect_at-collect_both-requires : goal.collect_at-collect_both-requires
collect_at-collect_both-requires t c = (omega (arith, has_level c.requires.1.0), (c.requires.0, (if_blocks c.requires.1.0 c.byte_in.ensures c.in-34.is c.end_in.ensures, small_same c.requires.1.1 (conditional_text c.requires.1.0 c.byte_in.ensures c.in-34.is c.end_in.ensures))))

pub collect_at-overflow_sub-depth-in-35 : goal.collect_at-overflow_sub-depth-in-35
collect_at-overflow_sub-depth-in-35 t c = omega (arith, has_level c.requires.1.0)

pub collect_at-overflow_add-p-in-35 : goal.collect_at-overflow_add-p-in-35
collect_at-overflow_add-p-in-35 t c = omega (arith, c.requires.0, has_header c.requires.1.0)

pub collect_at-end_in-requires-in-35 : goal.collect_at-end_in-requires-in-35
collect_at-end_in-requires-in-35 t c = header_at (scrutinee_header c.requires.1.0 c.byte_in.ensures c.in-35.is) c.requires.0

pub collect_at-end_in-requires-in-35-2 : goal.collect_at-end_in-requires-in-35-2
collect_at-end_in-requires-in-35-2 t c = header_at (has_header c.requires.1.0) c.requires.0

pub collect_at-collect_any-requires : goal.collect_at-collect_any-requires
collect_at-collect_any-requires t c = (omega (arith, has_level c.requires.1.0), (c.requires.0, (case_branches c.requires.1.0 c.byte_in.ensures c.in-35.is c.end_in-in-35.ensures c.end_in-in-35-2.ensures, small_same c.requires.1.1 (choice_text c.requires.1.0 c.byte_in.ensures c.in-35.is c.end_in-in-35.ensures c.end_in-in-35-2.ensures))))

pub collect_at-returns-in-33 : goal.collect_at-returns-in-33
collect_at-returns-in-33 t c = collects_same (assignment_text c.requires.1.0 c.byte_in.ensures c.in-33.is c.two_in.ensures) c.insert.ensures

pub collect_at-returns-in-34 : goal.collect_at-returns-in-34
collect_at-returns-in-34 t c = collects_same (conditional_text c.requires.1.0 c.byte_in.ensures c.in-34.is c.end_in.ensures) c.collect_both.ensures

pub collect_at-returns-in-35 : goal.collect_at-returns-in-35
collect_at-returns-in-35 t c = collects_same (choice_text c.requires.1.0 c.byte_in.ensures c.in-35.is c.end_in-in-35.ensures c.end_in-in-35-2.ensures) c.collect_any.ensures

pub collect_at-returns-in-39 : goal.collect_at-returns-in-39
collect_at-returns-in-39 t c = collects_declares _ (declaring_text c.requires.1.0 c.byte_in.ensures (omega arith) (omega arith)) refl refl

pub collect_at-returns-then-this-lt39 : goal.collect_at-returns-then-this-lt39
collect_at-returns-then-this-lt39 t c = collects_none _ (other_text c.requires.1.0 c.byte_in.ensures (omega arith) (omega arith) (omega arith) (omega arith) (omega arith) (omega arith))

pub collect_at-returns-else-this-lt42 : goal.collect_at-returns-else-this-lt42
collect_at-returns-else-this-lt42 t c = collects_none _ (other_text c.requires.1.0 c.byte_in.ensures (omega arith) (omega arith) (omega arith) (omega arith) (omega arith) (omega arith))

pub collect_both-end_in-second-requires : goal.collect_both-end_in-second-requires
collect_both-end_in-second-requires t c = header_at (has_header c.requires.1.0.0) c.requires.0

pub collect_both-collect_in-requires : goal.collect_both-collect_in-requires
collect_both-collect_in-requires t c = (omega arith, (c.requires.0, ((c.requires.1.0.0, small_first _ _ c.requires.1.1 refl), c.end_in-second.ensures)))

pub collect_both-end_in-requires : goal.collect_both-end_in-requires
collect_both-end_in-requires t c = header_at (has_header (second_block c.requires.1.0 c.requires.1.1 c.end_in-second.ensures).0) c.requires.0

pub collect_both-collect_in-requires-2 : goal.collect_both-collect_in-requires-2
collect_both-collect_in-requires-2 t c = (omega arith, (c.requires.0, (second_block c.requires.1.0 c.requires.1.1 c.end_in-second.ensures, c.end_in.ensures)))

pub collect_both-returns : goal.collect_both-returns
collect_both-returns t c = collects_then c.collect_in.ensures (rw c.end_in-second.ensures at c.collect_in-2.ensures)

pub collect_in-overflow_add-p : goal.collect_in-overflow_add-p
collect_in-overflow_add-p t c = omega (arith, c.requires.0, has_header c.requires.1.0.0)

pub collect_in-overflow_sub-depth : goal.collect_in-overflow_sub-depth
collect_in-overflow_sub-depth t c = omega (arith, has_level c.requires.1.0.0)

pub collect_in-overflow_add-p-then-p-end : goal.collect_in-overflow_add-p-then-p-end
collect_in-overflow_add-p-then-p-end t c = omega (arith, c.requires.0, has_header c.requires.1.0.0)

pub collect_in-collect_statements-requires : goal.collect_in-collect_statements-requires
collect_in-collect_statements-requires t c = (omega (arith, has_level c.requires.1.0.0), (c.requires.0, (block_statements c.requires.1.0.0 c.requires.1.1, small_same c.requires.1.0.1 (block_text c.requires.1.0.0 c.requires.1.1))))

pub collect_in-returns-then-p-end : goal.collect_in-returns-then-p-end
collect_in-returns-then-p-end t c = collects_same (block_text c.requires.1.0.0 c.requires.1.1) c.collect_statements.ensures

pub collect_in-returns-else-p-end : goal.collect_in-returns-else-p-end
collect_in-returns-else-p-end t c = collects_none _ (empty_block_text c.requires.1.0.0 c.requires.1.1 c.if-p-end.false)

pub collect_statements-loop-q-init : goal.collect_statements-loop-q-init
collect_statements-loop-q-init t c = (c.requires.1.0, collecting _ c.requires.1.1)

pub collect_statements-collect_at-requires : goal.collect_statements-collect_at-requires
collect_statements-collect_at-requires t c = (omega arith, (c.requires.0, (sibling_here c.loop-q.invariant.0 c.loop-q-test.true, here_small c.loop-q.invariant.1 _ _ (statements_text c.loop-q.invariant.0 c.loop-q-test.true refl))))

pub collect_statements-end_in-q-requires : goal.collect_statements-end_in-q-requires
collect_statements-end_in-q-requires t c = header_at (has_header (sibling_here c.loop-q.invariant.0 c.loop-q-test.true)) c.requires.0

pub collect_statements-loop-q-smaller : goal.collect_statements-loop-q-smaller
collect_statements-loop-q-smaller t c = omega (arith, c.loop-q-test.true, c.end_in-q.ensures)

pub collect_statements-loop-q-preserved : goal.collect_statements-loop-q-preserved
collect_statements-loop-q-preserved t c = (siblings_after c.loop-q.invariant.0 c.loop-q-test.true c.end_in-q.ensures, collected_here c.loop-q.invariant.1 _ _ (statements_text c.loop-q.invariant.0 c.loop-q-test.true c.end_in-q.ensures) c.collect_at.ensures)

pub collect_statements-returns : goal.collect_statements-returns
collect_statements-returns t c = collected_all c.loop-q.invariant.1 (no_statement_text c.loop-q.invariant.0 c.loop-q-test.false)
