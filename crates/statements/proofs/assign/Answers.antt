-- `assign`: the expression refuses, or its value is stored.
use Rattle.evaluator.proofs.Fresh.{fresh_refusal, fresh_value}
use Rattle.labels.specs.Sets.{no_labels}
use mathlib.Core.Path.{refl}
use native.Mathlib.Omega.{arith}
use Rattle.branches.proofs.Standing.{has_level}
use Rattle.evaluator.proofs.Expressions.{resized}
use Rattle.statements.proofs.Assigning.{value_place, assign_refused, assign_stored}
use Rattle.statements.proofs.assign.Goals as goal

pub overflow_sub-depth : goal.overflow_sub-depth
overflow_sub-depth c = omega (arith, has_level c.requires.0.1)

pub evaluate-requires : goal.evaluate-requires
evaluate-requires c = let pre = c.requires in resized pre.0.0 (value_place pre.0.1 pre.1.0 pre.0.0.manifest)

pub returns-in_err-value : goal.returns-in_err-value
unfolding no_labels
returns-in_err-value c = let pre = c.requires in assign_refused _ pre.0.1 pre.1.0 (λ s. fresh_refusal refl (c.evaluate.ensures.1 s) c.in_err-value.was) _ (grind arith) refl

pub returns : goal.returns
unfolding no_labels
returns c = let pre = c.requires in assign_stored _ pre.0.1 pre.1.0 (λ s. fresh_value refl (c.evaluate.ensures.1 s) c.in_ok-value.was c.in_words-labels.ensures) _ _ refl c.two_at.ensures c.store.ensures
