-- `add_attribute`: the expression is refused, or its value is appended.
use mathlib.Core.Path.{◌≡◌, refl}
use Rattle.std.specs.Prelude.{Err}
use native.Mathlib.Omega.{arith}
use Rattle.labels.specs.Sets.{no_labels}
use Rattle.evaluator.proofs.Expressions.{resized}
use Rattle.evaluator.proofs.Fresh.{fresh_refusal, fresh_value}
use Rattle.resources.proofs.Gathering.{attribute_stops, attribute_goes_on}
use Rattle.resources.proofs.add_attribute.Goals as goal

pub overflow_add-q : goal.overflow_add-q
overflow_add-q c = omega (arith, c.requires.0.place)

pub evaluate-requires : goal.evaluate-requires
evaluate-requires c = resized c.requires.0 c.place.ensures.0

pub overflow_add-q-2 : goal.overflow_add-q-2
overflow_add-q-2 c = omega (arith, c.requires.0.place)

pub append-requires : goal.append-requires
append-requires c = (c.requires.0.filled, c.requires.1)

pub returns-in_err-value : goal.returns-in_err-value
unfolding no_labels
returns-in_err-value c = let handed_on : c.from_residual.result ≡ Err c.in_err-value.field-0.0 = grind arith in rw handed_on (attribute_stops _ _ _ _ _ _ _ _ _ _ c.requires.0.manifest c.place.ensures (λ s. fresh_refusal refl (c.evaluate.ensures.1 s) c.in_err-value.was) refl)

pub shape_of-out : goal.shape_of-out
shape_of-out c = c.append.ensures.kept.long

pub returns : goal.returns
unfolding no_labels
returns c = attribute_goes_on _ _ _ _ _ _ _ _ _ _ c.requires.0.manifest c.place.ensures (λ s. fresh_value refl (c.evaluate.ensures.1 s) c.in_ok-value.was c.in_words-labels.ensures) _ refl c.two_at.ensures c.append.ensures
