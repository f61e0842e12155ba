-- `skips_right`: by the operator, and for two of them by the left value.
use mathlib.Core.Path.{refl}
use Rattle.labels.specs.Sets.{no_labels}
use Rattle.evaluator.proofs.Expressions.{resized}
use native.Mathlib.Omega.{arith}
use Rattle.evaluator.proofs.Fresh.{fresh_told}
use Rattle.provenance.proofs.Operands.{never_skips, skips_by_left}
use Rattle.provenance.proofs.skips_right.Goals as goal

pub overflow_add-p : goal.overflow_add-p
overflow_add-p c = omega (arith, c.requires.place)

pub returns-then-op-lt5 : goal.returns-then-op-lt5
returns-then-op-lt5 c = λ d o. never_skips _ _ _ _ _ o c.byte_at-op.ensures c.if-op-lt5.true

pub overflow_add-p-2 : goal.overflow_add-p-2
overflow_add-p-2 c = omega (arith, c.requires.place)

pub evaluate-a-requires : goal.evaluate-a-requires
evaluate-a-requires c = resized c.requires c.place.ensures.0

pub returns : goal.returns
unfolding no_labels
returns c = λ d o. skips_by_left _ _ _ _ _ o c.byte_at-op.ensures c.requires.manifest c.if-op-lt5.false c.place.ensures (λ s. fresh_told refl (c.evaluate-a.ensures.1 s) refl) (c.is_boolean.ensures _)
