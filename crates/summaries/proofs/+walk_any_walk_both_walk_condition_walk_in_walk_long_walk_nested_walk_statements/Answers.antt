-- The walk: a block looks at its statements one level down, and an if or a case at its blocks. The measure is the depth; the statements of a block come before
use mathlib.Core.Path.{refl, ◌∙◌}
use native.Mathlib.Omega.{arith}
use Rattle.branches.proofs.Standing.{has_level, has_header, header_at, condition_header, scrutinee_header, if_blocks, case_branches, block_statements, sibling_here, siblings_after, branch_block, branch_ends, pattern_header}
use Rattle.branches.proofs.Texts.{conditional_text, choice_text, block_text, statements_text, no_statement_text, empty_block_text, branches_text, no_branch_text, small_first, small_same, second_block, collects_none, here_small}
use Rattle.summaries.proofs.Walks.{summarizes_same, summarizes_then, walking_on, only_collected, from_line, place_small, own_text, joined_own, walk_starts, walked_all, walked_here}
use Rattle.summaries.proofs.+walk_any_walk_both_walk_condition_walk_in_walk_long_walk_nested_walk_statements.Goals as goal

pub walk_any-loop-q-init : goal.walk_any-loop-q-init
walk_any-loop-q-init t c = (c.requires.1.0, walk_starts c.requires.0 c.requires.1.1)

pub walk_any-overflow_add-q : goal.walk_any-overflow_add-q
walk_any-overflow_add-q t c = omega (arith, c.requires.0.manifest, has_header (sibling_here c.loop-q.invariant.0 c.loop-q-test.true))

pub walk_any-end_in-block-requires : goal.walk_any-end_in-block-requires
walk_any-end_in-block-requires t c = header_at (pattern_header (sibling_here c.loop-q.invariant.0 c.loop-q-test.true)) c.requires.0.manifest

pub walk_any-end_in-next-requires : goal.walk_any-end_in-next-requires
walk_any-end_in-next-requires t c = header_at (has_header (sibling_here c.loop-q.invariant.0 c.loop-q-test.true)) c.requires.0.manifest

pub walk_any-overflow_sub-depth : goal.walk_any-overflow_sub-depth
walk_any-overflow_sub-depth t c = omega (arith, has_level (sibling_here c.loop-q.invariant.0 c.loop-q-test.true))

pub walk_any-walk_in-requires : goal.walk_any-walk_in-requires
walk_any-walk_in-requires t c =
    let here = sibling_here c.loop-q.invariant.0 c.loop-q-test.true in
    let small = here_small c.loop-q.invariant.1.collected _ _ (branches_text c.loop-q.invariant.0 c.loop-q-test.true c.end_in-block.ensures refl) in
    (omega (arith, has_level here), (c.loop-q.invariant.1.walk, ((branch_block here c.end_in-block.ensures, small), branch_ends here c.end_in-block.ensures c.end_in-next.ensures)))

pub walk_any-loop-q-smaller : goal.walk_any-loop-q-smaller
walk_any-loop-q-smaller t c = omega (arith, c.loop-q-test.true, c.end_in-next.ensures)

pub walk_any-loop-q-preserved : goal.walk_any-loop-q-preserved
walk_any-loop-q-preserved t c = (siblings_after c.loop-q.invariant.0 c.loop-q-test.true c.end_in-next.ensures, walked_here c.loop-q.invariant.1 _ _ (branches_text c.loop-q.invariant.0 c.loop-q-test.true c.end_in-block.ensures c.end_in-next.ensures) c.walk_in.ensures)

pub walk_any-shape_of-work : goal.walk_any-shape_of-work
walk_any-shape_of-work t c = c.loop-q.invariant.1.notes.size

pub walk_any-returns : goal.walk_any-returns
walk_any-returns t c = walked_all c.loop-q.invariant.1 (no_branch_text c.loop-q.invariant.0 c.loop-q-test.false)

pub walk_both-end_in-second-requires : goal.walk_both-end_in-second-requires
walk_both-end_in-second-requires t c = header_at (has_header c.requires.1.0.0) c.requires.0.manifest

pub walk_both-walk_in-requires : goal.walk_both-walk_in-requires
walk_both-walk_in-requires t c = (omega arith, (c.requires.0, ((c.requires.1.0.0, small_first _ _ c.requires.1.1 refl), c.end_in-second.ensures)))

pub walk_both-end_in-requires : goal.walk_both-end_in-requires
walk_both-end_in-requires t c = header_at (has_header (second_block c.requires.1.0 c.requires.1.1 c.end_in-second.ensures).0) c.requires.0.manifest

pub walk_both-walk_in-requires-2 : goal.walk_both-walk_in-requires-2
walk_both-walk_in-requires-2 t c = (omega arith, (walking_on c.requires.0 c.walk_in.ensures, (second_block c.requires.1.0 c.requires.1.1 c.end_in-second.ensures, c.end_in.ensures)))

pub walk_both-shape_of-work : goal.walk_both-shape_of-work
walk_both-shape_of-work t c = c.walk_in-2.ensures.notes.size ∙ c.walk_in.ensures.notes.size

pub walk_both-returns : goal.walk_both-returns
walk_both-returns t c = summarizes_then c.walk_in.ensures (rw c.end_in-second.ensures at c.walk_in-2.ensures)

pub walk_condition-is_for-requires : goal.walk_condition-is_for-requires
walk_condition-is_for-requires t c = ((c.requires.0.memory, c.line_for-line.ensures), place_small c.requires.0 c.requires.1.0)

pub walk_condition-recall-requires : goal.walk_condition-recall-requires
walk_condition-recall-requires t c = (c.requires.0.memory, c.line_for-line.ensures)

pub walk_condition-returns-then-is_for : goal.walk_condition-returns-then-is_for
walk_condition-returns-then-is_for t c = from_line c.requires.0 c.line_for-line.ensures (c.is_for.ensures c.if-is_for.true) c.recall.ensures

pub walk_condition-byte_in-requires : goal.walk_condition-byte_in-requires
walk_condition-byte_in-requires t c = omega (arith, has_header c.requires.1.0)

pub walk_condition-overflow_sub-depth : goal.walk_condition-overflow_sub-depth
walk_condition-overflow_sub-depth t c = omega (arith, has_level c.requires.1.0)

pub walk_condition-overflow_add-p : goal.walk_condition-overflow_add-p
walk_condition-overflow_add-p t c = omega (arith, c.requires.0.manifest, has_header c.requires.1.0)

pub walk_condition-end_in-requires : goal.walk_condition-end_in-requires
walk_condition-end_in-requires t c = header_at (condition_header c.requires.1.0 c.byte_in.ensures c.in-34.is) c.requires.0.manifest

pub walk_condition-walk_both-requires : goal.walk_condition-walk_both-requires
walk_condition-walk_both-requires t c = (omega (arith, has_level c.requires.1.0), (c.requires.0, (if_blocks c.requires.1.0 c.byte_in.ensures c.in-34.is c.end_in.ensures, small_same c.requires.1.1 (conditional_text c.requires.1.0 c.byte_in.ensures c.in-34.is c.end_in.ensures))))

pub walk_condition-overflow_sub-depth-in-35 : goal.walk_condition-overflow_sub-depth-in-35
walk_condition-overflow_sub-depth-in-35 t c = omega (arith, has_level c.requires.1.0)

pub walk_condition-overflow_add-p-in-35 : goal.walk_condition-overflow_add-p-in-35
walk_condition-overflow_add-p-in-35 t c = omega (arith, c.requires.0.manifest, has_header c.requires.1.0)

pub walk_condition-end_in-requires-in-35 : goal.walk_condition-end_in-requires-in-35
walk_condition-end_in-requires-in-35 t c = header_at (scrutinee_header c.requires.1.0 c.byte_in.ensures c.in-35.is) c.requires.0.manifest

pub walk_condition-end_in-requires-in-35-2 : goal.walk_condition-end_in-requires-in-35-2
walk_condition-end_in-requires-in-35-2 t c = header_at (has_header c.requires.1.0) c.requires.0.manifest

pub walk_condition-walk_any-requires : goal.walk_condition-walk_any-requires
walk_condition-walk_any-requires t c = (omega (arith, has_level c.requires.1.0), (c.requires.0, (case_branches c.requires.1.0 c.byte_in.ensures c.in-35.is c.end_in-in-35.ensures c.end_in-in-35-2.ensures, small_same c.requires.1.1 (choice_text c.requires.1.0 c.byte_in.ensures c.in-35.is c.end_in-in-35.ensures c.end_in-in-35-2.ensures))))

pub walk_condition-collect_at-requires : goal.walk_condition-collect_at-requires
walk_condition-collect_at-requires t c = (c.requires.0.manifest, c.requires.1)

pub walk_condition-shape_of-work-in-34 : goal.walk_condition-shape_of-work-in-34
walk_condition-shape_of-work-in-34 t c = c.walk_both.ensures.notes.size

pub walk_condition-returns-in-34 : goal.walk_condition-returns-in-34
walk_condition-returns-in-34 t c = summarizes_same (conditional_text c.requires.1.0 c.byte_in.ensures c.in-34.is c.end_in.ensures) c.walk_both.ensures

pub walk_condition-shape_of-work-in-35 : goal.walk_condition-shape_of-work-in-35
walk_condition-shape_of-work-in-35 t c = c.walk_any.ensures.notes.size

pub walk_condition-returns-in-35 : goal.walk_condition-returns-in-35
walk_condition-returns-in-35 t c = summarizes_same (choice_text c.requires.1.0 c.byte_in.ensures c.in-35.is c.end_in-in-35.ensures c.end_in-in-35-2.ensures) c.walk_any.ensures

pub walk_condition-returns-in_default : goal.walk_condition-returns-in_default
walk_condition-returns-in_default t c = only_collected c.requires.0 c.collect_at.ensures

pub walk_in-overflow_add-p : goal.walk_in-overflow_add-p
walk_in-overflow_add-p t c = omega (arith, c.requires.0.manifest, has_header c.requires.1.0.0)

pub walk_in-overflow_sub-depth : goal.walk_in-overflow_sub-depth
walk_in-overflow_sub-depth t c = omega (arith, has_level c.requires.1.0.0)

pub walk_in-overflow_add-p-then-p-end : goal.walk_in-overflow_add-p-then-p-end
walk_in-overflow_add-p-then-p-end t c = omega (arith, c.requires.0.manifest, has_header c.requires.1.0.0)

pub walk_in-walk_statements-requires : goal.walk_in-walk_statements-requires
walk_in-walk_statements-requires t c = (omega (arith, has_level c.requires.1.0.0), (c.requires.0, (block_statements c.requires.1.0.0 c.requires.1.1, small_same c.requires.1.0.1 (block_text c.requires.1.0.0 c.requires.1.1))))

pub walk_in-returns-then-p-end : goal.walk_in-returns-then-p-end
walk_in-returns-then-p-end t c = summarizes_same (block_text c.requires.1.0.0 c.requires.1.1) c.walk_statements.ensures

pub walk_in-returns-else-p-end : goal.walk_in-returns-else-p-end
walk_in-returns-else-p-end t c = only_collected c.requires.0 (collects_none _ (empty_block_text c.requires.1.0.0 c.requires.1.1 c.if-p-end.false))

pub walk_long-byte_in-requires : goal.walk_long-byte_in-requires
walk_long-byte_in-requires t c = omega (arith, has_header c.requires.1.0)

pub walk_long-walk_nested-requires : goal.walk_long-walk_nested-requires
walk_long-walk_nested-requires t c = (omega arith, c.requires)

pub walk_long-collect_at-requires : goal.walk_long-collect_at-requires
walk_long-collect_at-requires t c = (c.requires.0.manifest, c.requires.1)

pub walk_long-shape_of-work : goal.walk_long-shape_of-work
walk_long-shape_of-work t c = c.walk_nested.ensures.notes.size

pub walk_long-returns-in-34 : goal.walk_long-returns-in-34
walk_long-returns-in-34 t c = c.walk_nested.ensures

pub walk_long-returns-in_default : goal.walk_long-returns-in_default
walk_long-returns-in_default t c = only_collected c.requires.0 c.collect_at.ensures

pub walk_nested-walk_condition-requires : goal.walk_nested-walk_condition-requires
walk_nested-walk_condition-requires t c = (omega arith, c.requires)

pub walk_nested-keep-requires : goal.walk_nested-keep-requires
walk_nested-keep-requires t c =
    let walk = walking_on c.requires.0 c.walk_condition.ensures in
    ((walk.memory, place_small walk c.requires.1.0), (walk.summarized, own_text refl refl c.walk_condition.ensures.collects))

pub walk_nested-shape_of-work : goal.walk_nested-shape_of-work
walk_nested-shape_of-work t c = c.keep.ensures.size ∙ c.walk_condition.ensures.notes.size

pub walk_nested-returns : goal.walk_nested-returns
walk_nested-returns t c = joined_own refl refl c.walk_condition.ensures c.keep.ensures c.join.ensures

pub walk_statements-loop-q-init : goal.walk_statements-loop-q-init
walk_statements-loop-q-init t c = (c.requires.1.0, walk_starts c.requires.0 c.requires.1.1)

pub walk_statements-end_in-next-requires : goal.walk_statements-end_in-next-requires
walk_statements-end_in-next-requires t c = header_at (has_header (sibling_here c.loop-q.invariant.0 c.loop-q-test.true)) c.requires.0.manifest

pub walk_statements-overflow_sub-next : goal.walk_statements-overflow_sub-next
walk_statements-overflow_sub-next t c = omega (arith, c.end_in-next.ensures)

pub walk_statements-collect_at-requires : goal.walk_statements-collect_at-requires
walk_statements-collect_at-requires t c = (c.loop-q.invariant.1.walk.manifest, (sibling_here c.loop-q.invariant.0 c.loop-q-test.true, (here_small c.loop-q.invariant.1.collected _ _ (statements_text c.loop-q.invariant.0 c.loop-q-test.true refl))))

pub walk_statements-loop-q-smaller-then-next-q-lt-LONG : goal.walk_statements-loop-q-smaller-then-next-q-lt-LONG
walk_statements-loop-q-smaller-then-next-q-lt-LONG t c = omega (arith, c.loop-q-test.true, c.end_in-next.ensures)

pub walk_statements-loop-q-preserved-then-next-q-lt-LONG : goal.walk_statements-loop-q-preserved-then-next-q-lt-LONG
walk_statements-loop-q-preserved-then-next-q-lt-LONG t c = (siblings_after c.loop-q.invariant.0 c.loop-q-test.true c.end_in-next.ensures, walked_here c.loop-q.invariant.1 _ _ (statements_text c.loop-q.invariant.0 c.loop-q-test.true c.end_in-next.ensures) (only_collected c.loop-q.invariant.1.walk c.collect_at.ensures))

pub walk_statements-walk_long-requires : goal.walk_statements-walk_long-requires
walk_statements-walk_long-requires t c = (omega arith, (c.loop-q.invariant.1.walk, (sibling_here c.loop-q.invariant.0 c.loop-q-test.true, (here_small c.loop-q.invariant.1.collected _ _ (statements_text c.loop-q.invariant.0 c.loop-q-test.true refl)))))

pub walk_statements-loop-q-smaller : goal.walk_statements-loop-q-smaller
walk_statements-loop-q-smaller t c = omega (arith, c.loop-q-test.true, c.end_in-next.ensures)

pub walk_statements-loop-q-preserved : goal.walk_statements-loop-q-preserved
walk_statements-loop-q-preserved t c = (siblings_after c.loop-q.invariant.0 c.loop-q-test.true c.end_in-next.ensures, walked_here c.loop-q.invariant.1 _ _ (statements_text c.loop-q.invariant.0 c.loop-q-test.true c.end_in-next.ensures) c.walk_long.ensures)

pub walk_statements-shape_of-work : goal.walk_statements-shape_of-work
walk_statements-shape_of-work t c = c.loop-q.invariant.1.notes.size

pub walk_statements-returns : goal.walk_statements-returns
walk_statements-returns t c = walked_all c.loop-q.invariant.1 (no_statement_text c.loop-q.invariant.0 c.loop-q-test.false)
