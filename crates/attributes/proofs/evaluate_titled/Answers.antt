-- `evaluate_titled`: the title is refused or no string, an attribute is refused, or all are given.
use Rattle.evaluator.proofs.Operators.{unlike_string}
use mathlib.Core.Path.{◌≡◌, refl}
use Rattle.std.specs.Prelude.{Err}
use native.Mathlib.Omega.{arith}
use Rattle.labels.specs.Sets.{no_labels}
use Rattle.evaluator.proofs.Expressions.{resized}
use Rattle.evaluator.proofs.Fresh.{fresh_refusal, fresh_value}
use Rattle.attributes.proofs.Table.{fresh_between}
use Rattle.attributes.proofs.Titled.{deep, titled_attributes, title_near, end_near, title_stops, title_wrong, attributes_stop, all_given}
use Rattle.attributes.proofs.evaluate_titled.Goals as goal

pub overflow_sub-depth : goal.overflow_sub-depth
overflow_sub-depth c = omega (arith, deep c.requires.0.0.1 c.requires.0.1)

pub evaluate-requires : goal.evaluate-requires
evaluate-requires c = let pre = c.requires.0 in resized pre.0.0 (title_near pre.0.1 pre.1 pre.0.0.manifest)

pub returns-in_err-value : goal.returns-in_err-value
unfolding no_labels
returns-in_err-value c = let pre = c.requires.0 in let handed_on : c.from_residual.result ≡ Err c.in_err-value.field-0.0 = grind arith in rw handed_on (title_stops pre.0.1 pre.1 _ _ _ _ (λ s. fresh_refusal refl (c.evaluate.ensures.1 s) c.in_err-value.was) refl)

pub at-requires : goal.at-requires
at-requires c = let pre = c.requires.0 in omega (arith, title_near pre.0.1 pre.1 pre.0.0.manifest)

pub returns-in_default : goal.returns-in_default
unfolding no_labels
returns-in_default c = let pre = c.requires.0 in title_wrong pre.0.1 pre.1 _ _ _ _ (λ s. fresh_value refl (c.evaluate.ensures.1 s) c.in_ok-value.was refl) _ refl (unlike_string _ c.in_default.not-String) c.at.ensures

pub overflow_sub-depth-2 : goal.overflow_sub-depth-2
overflow_sub-depth-2 c = omega (arith, deep c.requires.0.0.1 c.requires.0.1)

pub evaluate_attributes-requires : goal.evaluate_attributes-requires
evaluate_attributes-requires c =
    ((resized c.requires.0.0.0 (omega (arith, c.end_of-2.ensures, end_near c.requires.0.0.1 c.requires.0.1 c.requires.0.0.0.manifest)), titled_attributes c.requires.0.0.1 c.requires.0.1 c.end_of.ensures c.end_of-2.ensures), fresh_between c.end_of.ensures c.end_of-2.ensures c.requires.1)

pub returns-in_err-evaluate_attributes : goal.returns-in_err-evaluate_attributes
unfolding no_labels
returns-in_err-evaluate_attributes c =
    let pre = c.requires.0 in
    let handed_on : c.from_residual-in_err-evaluate_attributes.result ≡ Err c.in_err-evaluate_attributes.field-0.0 = grind arith in
    rw handed_on (attributes_stop pre.0.1 pre.1 _ _ _ _ (λ s. fresh_value refl (c.evaluate.ensures.1 s) c.in_ok-value.was refl) _ refl c.in-String.is c.end_of.ensures c.end_of-2.ensures c.evaluate_attributes.ensures c.in_err-evaluate_attributes.was)

pub returns : goal.returns
unfolding no_labels
returns c = let pre = c.requires.0 in all_given pre.0.1 pre.1 _ _ _ _ (λ s. fresh_value refl (c.evaluate.ensures.1 s) c.in_ok-value.was c.in_words-labels.ensures) _ refl c.in-String.is c.end_of.ensures c.end_of-2.ensures c.evaluate_attributes.ensures c.in_ok-evaluate_attributes.was
