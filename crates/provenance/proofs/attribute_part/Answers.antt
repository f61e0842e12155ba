-- `attribute_part`: the expression refuses, or the part of its set.
use mathlib.Core.Path.{refl}
use Rattle.labels.specs.Sets.{no_labels}
use Rattle.evaluator.proofs.Expressions.{resized}
use Rattle.evaluator.proofs.Fresh.{fresh_refusal, fresh_value}
use Rattle.provenance.proofs.Operands.{is_refused_lem}
use Rattle.provenance.proofs.Notes.{part_refused, part_found}
use Rattle.provenance.proofs.attribute_part.Goals as goal

pub evaluate-e-requires : goal.evaluate-e-requires
evaluate-e-requires c = resized c.requires c.place-at.ensures.0

pub marks_read-marks-requires : goal.marks_read-marks-requires
marks_read-marks-requires c = resized c.requires c.place-at.ensures.0

pub returns-in_default : goal.returns-in_default
unfolding no_labels
returns-in_default c = part_refused _ _ _ _ _ _ _ _ c.requires.manifest c.place-at.ensures (λ s. fresh_refusal refl (c.evaluate-e.ensures.1 s) (is_refused_lem _ c.in_default.not-Ok)) 6 refl

pub returns : goal.returns
unfolding no_labels
returns c = part_found _ _ _ _ _ _ _ _ c.requires.manifest c.place-at.ensures (λ s. fresh_value refl (c.evaluate-e.ensures.1 s) c.in-Ok.is c.in_words-value.ensures) _ refl c.marks_read-marks.ensures c.asked_label-label.ensures c.trail.ensures c.part_held.ensures
