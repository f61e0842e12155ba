-- `resource_note`: the title refuses, or is looked at.
use mathlib.Core.Path.{refl}
use Rattle.labels.specs.Sets.{no_labels}
use Rattle.evaluator.proofs.Expressions.{resized}
use Prim.Native.Nat.{◌-◌}
use native.Mathlib.Omega.{arith}
use Rattle.evaluator.proofs.Fresh.{fresh_refusal, fresh_value}
use Rattle.provenance.proofs.Operands.{is_refused_lem}
use Rattle.provenance.proofs.Notes.{resource_flat, title_refused, title_noted}
use Rattle.provenance.proofs.resource_note.Goals as goal

pub returns-then-depth-lt2 : goal.returns-then-depth-lt2
returns-then-depth-lt2 c = resource_flat _ _ _ _ _ _ _ c.if-depth-lt2.true

pub evaluate-t-requires : goal.evaluate-t-requires
evaluate-t-requires c = resized c.requires c.place-at.ensures.0

pub returns-in_default : goal.returns-in_default
unfolding no_labels
returns-in_default c = title_refused _ _ _ _ _ _ _ {b = c.args.depth - 1} (omega (arith, c.if-depth-lt2.false)) c.requires.manifest c.place-at.ensures (λ s. fresh_refusal refl (c.evaluate-t.ensures.1 s) (is_refused_lem _ c.in_default.not-Ok)) refl

pub returns : goal.returns
unfolding no_labels
returns c = title_noted _ _ _ _ _ _ _ {b = c.args.depth - 1} (omega (arith, c.if-depth-lt2.false)) c.requires.manifest c.place-at.ensures (λ s. fresh_value refl (c.evaluate-t.ensures.1 s) c.in-Ok.is c.in_words-labels.ensures) _ {inner = c.args.depth - 2} refl (omega (arith, c.if-depth-lt2.false)) c.titled_note.ensures
