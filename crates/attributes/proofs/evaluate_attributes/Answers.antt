-- `evaluate_attributes`: at the loop's head the attributes up to there are evaluated into the table, which is as long as it was, and has rows for the others.
use Prim.Native.Nat.{ℕ}
use mathlib.Core.Path.{◌≡◌, refl, subst}
use lib.ListN.{length}
use Rattle.std.specs.Prelude.{Err}
use Rattle.evaluator.proofs.Fresh.{fresh_refusal, fresh_value}
use Rattle.labels.specs.Sets.{no_labels}
use native.Mathlib.Omega.{arith}
use Rattle.wire.specs.Bytes.{fields_in}
use Rattle.wire.proofs.Walks.{step_of, along, here, over_end}
use Rattle.attributes.specs.Table.{Rows}
use Rattle.attributes.proofs.Table.{each_after, row_here}
use Rattle.attributes.proofs.Evaluating.{evaluating_begins, evaluating_here, deep, expression_sized, evaluating_stops, evaluating_on, evaluating_ends}
use Rattle.attributes.proofs.evaluate_attributes.Goals as goal

pub loop-q-init : goal.loop-q-init
loop-q-init c =
    let a = c.args in
    let at : a.span.first ≡ c.into_iter-q-iterator.result.at = cc in
    (record { bytes = cc; end = cc }, evaluating_here at (evaluating_begins c.requires.0.1 c.requires.1.blank), subst (λ (p : ℕ). Rows a.m.now (length a.table.now) (fields_in a.m.now p a.span.end)) at c.requires.1.rows, refl)

pub overflow_sub-depth : goal.overflow_sub-depth
overflow_sub-depth c =
    let inv = c.loop-q.invariant in
    let it = c.in-Some.ensures.steps in
    omega (arith, deep (evaluating_here (here inv.0 it) inv.1) (step_of inv.0 it).before)

pub overflow_add-q : goal.overflow_add-q
overflow_add-q c = omega (arith, (step_of c.loop-q.invariant.0 c.in-Some.ensures.steps).before, c.requires.0.0.place)

pub evaluate-requires : goal.evaluate-requires
evaluate-requires c =
    let inv = c.loop-q.invariant in
    let it = c.in-Some.ensures.steps in
    expression_sized (evaluating_here (here inv.0 it) inv.1) (step_of inv.0 it).before c.requires.0.0

pub shape_of-table-in_err-value : goal.shape_of-table-in_err-value
shape_of-table-in_err-value c = c.loop-q.invariant.3

pub returns-in_err-value : goal.returns-in_err-value
unfolding no_labels
returns-in_err-value c =
    let inv = c.loop-q.invariant in
    let it = c.in-Some.ensures.steps in
    let handed_on : c.from_residual.result ≡ Err c.in_err-value.field-0.0 = grind arith in
    rw handed_on (evaluating_stops (evaluating_here (here inv.0 it) inv.1) (step_of inv.0 it).before (λ s. fresh_refusal refl (c.evaluate.ensures.1 s) c.in_err-value.was) refl)

pub overflow_add-q-in-loop-q : goal.overflow_add-q-in-loop-q
overflow_add-q-in-loop-q c = omega (arith, (step_of c.loop-q.invariant.0 c.in-Some.ensures.steps).before, c.requires.0.0.place)

pub add_given-requires : goal.add_given-requires
add_given-requires c =
    let a = c.args in
    let inv = c.loop-q.invariant in
    let it = c.in-Some.ensures.steps in
    row_here _ (step_of inv.0 it).before (subst (λ (p : ℕ). Rows a.m.now (length a.table.now) (fields_in a.m.now p a.span.end)) (here inv.0 it) inv.2) c.two_at.ensures inv.3

pub loop-q-preserved : goal.loop-q-preserved
unfolding no_labels
loop-q-preserved c =
    let a = c.args in
    let inv = c.loop-q.invariant in
    let it = c.in-Some.ensures.steps in
    let step = step_of inv.0 it in
    let rows = subst (λ (p : ℕ). Rows a.m.now (length a.table.now) (fields_in a.m.now p a.span.end)) (here inv.0 it) inv.2 in
    (along inv.0 it, evaluating_on (evaluating_here (here inv.0 it) inv.1) step.before (λ s. fresh_value refl (c.evaluate.ensures.1 s) c.in_ok-value.was c.in_words-labels.ensures) _ refl c.two_at.ensures c.add_given.ensures step.next, rw step.next (each_after _ step.before rows), omega (arith, inv.3))

pub shape_of-table : goal.shape_of-table
shape_of-table c = c.loop-q.invariant.3

pub returns : goal.returns
returns c = evaluating_ends c.loop-q.invariant.1 (over_end c.loop-q.invariant.0 c.in-None.ensures.steps)
