-- `test_case`: the expression refuses, or the patterns are tried on its value.
use Rattle.evaluator.proofs.Fresh.{fresh_refusal, fresh_value}
use Rattle.labels.specs.Sets.{no_labels}
use mathlib.Core.Path.{refl}
use native.Mathlib.Omega.{arith}
use Rattle.branches.proofs.Standing.{has_level}
use Rattle.evaluator.proofs.Expressions.{resized}
use Rattle.statements.proofs.Conditions.{condition_place}
use Rattle.statements.proofs.Cases.{test_refused, test_decided}
use Rattle.statements.proofs.test_case.Goals as goal

pub overflow_sub-depth : goal.overflow_sub-depth
overflow_sub-depth c = omega (arith, has_level c.requires.0.1.stands)

pub evaluate-requires : goal.evaluate-requires
evaluate-requires c = let pre = c.requires in resized pre.0.0 (condition_place pre.0.1.stands pre.0.0.manifest)

pub try_case-requires : goal.try_case-requires
try_case-requires c = (c.requires.0.1, c.requires.1)

pub returns-in_err-value : goal.returns-in_err-value
unfolding no_labels
returns-in_err-value c = let pre = c.requires in test_refused _ pre.0.1.stands pre.1 (λ s. fresh_refusal refl (c.evaluate.ensures.1 s) c.in_err-value.was) _ (grind arith) refl

pub returns : goal.returns
unfolding no_labels
returns c = let pre = c.requires in test_decided _ pre.0.1.stands pre.1 (λ s. fresh_value refl (c.evaluate.ensures.1 s) c.in_ok-value.was refl) _ _ refl c.try_case.ensures
