-- The cycle of `statement` and what it calls for statements with blocks: each answer by the function whose goal it is.
use mathlib.Core.Path.{◌≡◌, refl, sym, ◌∙◌, ap}
use Prim.Native.Nat.{◌+◌}
use native.Mathlib.Omega.{arith}
use Rattle.places.proofs.Open.{level}
use Rattle.statement_printer.proofs.PrintedExpressions.{siblings_at, stands_at}
use Rattle.statement_printer.proofs.PrintedStatements.{braces_pass, block_here, block_passes, no_statement_yet, statement_stands, one_statement, all_statements, choice_here, choice_passes, conditional_here, conditional_passes, no_else_lem, some_else}
use Rattle.statement_printer.proofs.PrintedBranches.{branch_here, branch_passes, no_branch_yet, branch_stands, one_branch, all_branches}
use Rattle.wire.specs.Bytes.{end_of}
use Rattle.statement_printer.proofs.PlainStatements.{tagged, resource_parts, either_passes, include_tag_lem}
use Rattle.wire.proofs.Walks.{step_of, here, along, over_end}
use Rattle.statement_printer.proofs.statements.+block_branch_branches_choice_conditional_in_braces_otherwise_statement.Goals as goal

pub block-end_of-end-requires : goal.block-end_of-end-requires
block-end_of-end-requires t c = omega (arith, c.requires.1.stands.ends, c.requires.0.short)

pub block-overflow_add-p : goal.block-overflow_add-p
block-overflow_add-p t c = omega (arith, c.requires.1.stands.ends, c.requires.0.short)

pub block-fields_in-q-items-requires : goal.block-fields_in-q-items-requires
block-fields_in-q-items-requires t c = omega (arith, c.end_of-end.ensures, c.requires.1.stands.ends, c.requires.0.short)

pub block-loop-q-init : goal.block-loop-q-init
block-loop-q-init t c =
    let at : c.into_iter-q-iterator.result.at ≡ c.args.p + 3 = cc in
    (rw at (no_statement_yet _ _ _ _ _ (siblings_at refl refl c.end_of-end.ensures (block_here c.requires.1).statements)), refl, record { bytes = cc; end = cc })

pub block-end_of-requires : goal.block-end_of-requires
block-end_of-requires t c =
    let before = (step_of c.loop-q.invariant.2 c.in-Some.ensures.steps).before in
    omega (arith, before, c.end_of-end.ensures, c.requires.1.stands.ends, c.requires.0.short)

pub block-first_label-line-requires : goal.block-first_label-line-requires
block-first_label-line-requires t c =
    let along_it = c.loop-q.invariant.2 in
    let so_far = rw (here along_it c.in-Some.ensures.steps) at c.loop-q.invariant.0 in
    (omega (arith, c.end_of.ensures, (statement_stands _ _ _ _ _ (step_of along_it c.in-Some.ensures.steps).before so_far).stands.ends), c.requires.0.short)

pub block-overflow_sub-depth : goal.block-overflow_sub-depth
block-overflow_sub-depth t c = omega (arith, level c.requires.1.stands)

pub block-statement-at-requires : goal.block-statement-at-requires
block-statement-at-requires t c =
    let along_it = c.loop-q.invariant.2 in
    let so_far = rw (here along_it c.in-Some.ensures.steps) at c.loop-q.invariant.0 in
    (omega (arith, level c.requires.1.stands), (c.requires.0, statement_stands _ _ _ _ _ (step_of along_it c.in-Some.ensures.steps).before so_far))

pub block-loop-q-preserved : goal.block-loop-q-preserved
block-loop-q-preserved t c =
    let along_it = c.loop-q.invariant.2 in
    let step = step_of along_it c.in-Some.ensures.steps in
    let so_far = rw (here along_it c.in-Some.ensures.steps) at c.loop-q.invariant.0 in
    let line = rw (c.end_of.ensures ∙ sym step.next) at c.first_label-line.ensures in
    (one_statement _ _ _ _ _ step.before so_far step.next line c.statement-at.ensures, c.statement-at.auto.out ∙ c.loop-q.invariant.1, along along_it c.in-Some.ensures.steps)

pub block-returns : goal.block-returns
block-returns t c = block_passes _ _ _ c.requires.1 c.end_of-end.ensures (all_statements _ _ _ _ _ (over_end c.loop-q.invariant.2 c.in-None.ensures.steps) c.loop-q.invariant.0)

pub branch-overflow_add-q : goal.branch-overflow_add-q
branch-overflow_add-q t c = let o = branch_here c.requires.1 in omega (arith, o.block.stands.ends, c.requires.0.short)

pub branch-write_pattern-pattern-requires : goal.branch-write_pattern-pattern-requires
branch-write_pattern-pattern-requires t c = (c.requires.0, (branch_here c.requires.1).block.stands.ends)

pub branch-overflow_sub-depth : goal.branch-overflow_sub-depth
branch-overflow_sub-depth t c = omega (arith, level c.requires.1.stands)

pub branch-overflow_add-q-2 : goal.branch-overflow_add-q-2
branch-overflow_add-q-2 t c = let o = branch_here c.requires.1 in omega (arith, o.block.stands.ends, c.requires.0.short)

pub branch-end_of-requires : goal.branch-end_of-requires
branch-end_of-requires t c = let o = branch_here c.requires.1 in omega (arith, o.block.stands.ends, c.requires.0.short)

pub branch-in_braces-requires : goal.branch-in_braces-requires
branch-in_braces-requires t c = (omega (arith, level c.requires.1.stands), (c.requires.0, stands_at c.end_of.ensures (branch_here c.requires.1).block))

pub branch-returns : goal.branch-returns
branch-returns t c = branch_passes _ _ _ _ c.requires.1 c.end_of.ensures c.write_pattern-pattern.ensures c.write_mark-colon.ensures c.in_braces.ensures

pub branches-loop-q-init : goal.branches-loop-q-init
branches-loop-q-init t c =
    let at : c.into_iter-q-iterator.result.at ≡ c.args.first = cc in
    (rw at (no_branch_yet _ _ _ _ _ c.requires.1), refl, record { bytes = cc; end = cc })

pub branches-branch-at-requires : goal.branches-branch-at-requires
branches-branch-at-requires t c =
    let along_it = c.loop-q.invariant.2 in
    let so_far = rw (here along_it c.in-Some.ensures.steps) at c.loop-q.invariant.0 in
    (omega arith, (c.requires.0, branch_stands _ _ _ _ _ (step_of along_it c.in-Some.ensures.steps).before so_far))

pub branches-loop-q-preserved : goal.branches-loop-q-preserved
branches-loop-q-preserved t c =
    let along_it = c.loop-q.invariant.2 in
    let step = step_of along_it c.in-Some.ensures.steps in
    let so_far = rw (here along_it c.in-Some.ensures.steps) at c.loop-q.invariant.0 in
    (one_branch _ _ _ _ _ step.before so_far c.branch-at.ensures step.next, c.branch-at.auto.out ∙ c.loop-q.invariant.1, along along_it c.in-Some.ensures.steps)

pub branches-returns : goal.branches-returns
branches-returns t c = all_branches _ _ _ _ _ (over_end c.loop-q.invariant.2 c.in-None.ensures.steps) c.loop-q.invariant.0

pub choice-overflow_sub-below : goal.choice-overflow_sub-below
choice-overflow_sub-below t c = omega (arith, level c.requires.stands.stands)

pub choice-overflow_add-p : goal.choice-overflow_add-p
choice-overflow_add-p t c = omega (arith, c.requires.stands.stands.ends, c.requires.source.short)

pub choice-expression-value-requires : goal.choice-expression-value-requires
choice-expression-value-requires t c = (c.requires.source, (choice_here c.requires).scrutinee)

pub choice-overflow_add-p-2 : goal.choice-overflow_add-p-2
choice-overflow_add-p-2 t c = omega (arith, c.requires.stands.stands.ends, c.requires.source.short)

pub choice-end_of-requires : goal.choice-end_of-requires
choice-end_of-requires t c = omega (arith, c.requires.stands.stands.ends, c.requires.source.short)

pub choice-end_of-requires-2 : goal.choice-end_of-requires-2
choice-end_of-requires-2 t c = omega (arith, c.requires.stands.stands.ends, c.requires.source.short)

pub choice-branches-all-requires : goal.choice-branches-all-requires
choice-branches-all-requires t c = (omega (arith, level c.requires.stands.stands), (c.requires.source, siblings_at refl c.end_of.ensures c.end_of-2.ensures (choice_here c.requires).branches, omega (arith, c.end_of-2.ensures, c.requires.stands.stands.ends, c.requires.source.short)))

pub choice-returns : goal.choice-returns
choice-returns t c = choice_passes _ _ _ _ _ (choice_here c.requires) c.end_of.ensures c.end_of-2.ensures c.write_mark-word.ensures c.expression-value.ensures c.write_mark-open.ensures c.branches-all.ensures c.write_mark.ensures

pub conditional-overflow_sub-below : goal.conditional-overflow_sub-below
conditional-overflow_sub-below t c = omega (arith, level c.requires.stands.stands)

pub conditional-overflow_add-p : goal.conditional-overflow_add-p
conditional-overflow_add-p t c = omega (arith, c.requires.stands.stands.ends, c.requires.source.short)

pub conditional-expression-condition-requires : goal.conditional-expression-condition-requires
conditional-expression-condition-requires t c = (c.requires.source, (conditional_here c.requires).condition)

pub conditional-overflow_add-p-2 : goal.conditional-overflow_add-p-2
conditional-overflow_add-p-2 t c = omega (arith, c.requires.stands.stands.ends, c.requires.source.short)

pub conditional-end_of-first-requires : goal.conditional-end_of-first-requires
conditional-end_of-first-requires t c = omega (arith, c.requires.stands.stands.ends, c.requires.source.short)

pub conditional-in_braces-taken-requires : goal.conditional-in_braces-taken-requires
conditional-in_braces-taken-requires t c = (omega (arith, level c.requires.stands.stands), (c.requires.source, stands_at c.end_of-first.ensures (conditional_here c.requires).if_true))

pub conditional-end_of-requires : goal.conditional-end_of-requires
conditional-end_of-requires t c = let o = conditional_here c.requires in omega (arith, o.if_true.stands.ends, c.requires.source.short, c.end_of-first.ensures)

pub conditional-otherwise-requires : goal.conditional-otherwise-requires
conditional-otherwise-requires t c = (omega (arith, level c.requires.stands.stands), (c.requires.source, stands_at (c.end_of.ensures ∙ ap (end_of _) c.end_of-first.ensures) (conditional_here c.requires).if_false))

pub conditional-returns : goal.conditional-returns
conditional-returns t c =
    conditional_passes _ _ _ _ _ (conditional_here c.requires) c.end_of-first.ensures c.end_of.ensures c.write_mark-word.ensures c.expression-condition.ensures c.in_braces-taken.ensures c.otherwise.ensures

pub in_braces-block-inside-requires : goal.in_braces-block-inside-requires
in_braces-block-inside-requires t c = (omega arith, c.requires)

pub in_braces-returns : goal.in_braces-returns
in_braces-returns t c = braces_pass _ _ c.write_mark-open.ensures c.block-inside.ensures c.write_mark.ensures

pub otherwise-end_of-requires : goal.otherwise-end_of-requires
otherwise-end_of-requires t c = omega (arith, c.requires.1.stands.ends, c.requires.0.short)

pub otherwise-overflow_add-p : goal.otherwise-overflow_add-p
otherwise-overflow_add-p t c = omega (arith, c.requires.1.stands.ends, c.requires.0.short)

pub otherwise-returns-then-end_of-p : goal.otherwise-returns-then-end_of-p
otherwise-returns-then-end_of-p t c = no_else_lem _ _ _ _ c.requires.1 c.end_of.ensures c.if-end_of-p.true

pub otherwise-in_braces-requires : goal.otherwise-in_braces-requires
otherwise-in_braces-requires t c = (omega arith, c.requires)

pub otherwise-returns : goal.otherwise-returns
otherwise-returns t c = some_else _ _ _ _ c.requires.1 c.end_of.ensures c.if-end_of-p.false c.write_mark-word.ensures c.in_braces.ensures

pub statement-assignment-requires : goal.statement-assignment-requires
statement-assignment-requires t c = tagged c.requires.1 c.byte_at.ensures c.requires.0 c.in-33.is

pub statement-conditional-requires : goal.statement-conditional-requires
statement-conditional-requires t c = (omega arith, tagged c.requires.1 c.byte_at.ensures c.requires.0 c.in-34.is)

pub statement-choice-requires : goal.statement-choice-requires
statement-choice-requires t c = (omega arith, tagged c.requires.1 c.byte_at.ensures c.requires.0 c.in-35.is)

pub statement-overflow_sub-depth : goal.statement-overflow_sub-depth
statement-overflow_sub-depth t c = omega (arith, level c.requires.1.stands)

pub statement-resource-requires : goal.statement-resource-requires
statement-resource-requires t c = let parts = resource_parts c.requires.1 c.byte_at.ensures c.in-37.is in (c.requires.0, parts.0, parts.1, omega (arith, c.requires.1.stands.ends, c.requires.0.short))

pub statement-class_with_attributes-requires : goal.statement-class_with_attributes-requires
statement-class_with_attributes-requires t c = tagged c.requires.1 c.byte_at.ensures c.requires.0 c.in-40.is

pub statement-include-requires : goal.statement-include-requires
statement-include-requires t c = tagged c.requires.1 c.byte_at.ensures c.requires.0 (include_tag_lem c.requires.1 c.byte_at.ensures (λ e. absurd (omega arith)) (λ e. absurd (omega arith)) (λ e. absurd (omega arith)) (λ e. absurd (omega arith)) (λ e. absurd (omega arith)))

pub statement-returns-in-33 : goal.statement-returns-in-33
statement-returns-in-33 t c = c.assignment.ensures

pub statement-returns-in-34 : goal.statement-returns-in-34
statement-returns-in-34 t c = c.conditional.ensures

pub statement-returns-in-35 : goal.statement-returns-in-35
statement-returns-in-35 t c = c.choice.ensures

pub statement-returns-in-37 : goal.statement-returns-in-37
statement-returns-in-37 t c = either_passes c.requires.1 c.byte_at.ensures _ _ c.in-37.is c.resource.ensures

pub statement-returns-in-40 : goal.statement-returns-in-40
statement-returns-in-40 t c = c.class_with_attributes.ensures

pub statement-returns-in_default : goal.statement-returns-in_default
statement-returns-in_default t c = c.include.ensures
