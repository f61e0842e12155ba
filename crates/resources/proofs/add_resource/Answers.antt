-- `add_resource`: the title is refused, or what follows it runs.
use mathlib.Core.Path.{◌≡◌, refl, ap}
use native.Mathlib.Omega.{arith}
use Rattle.labels.specs.Sets.{no_labels}
use Rattle.evaluator.proofs.Expressions.{resized}
use Rattle.evaluator.proofs.Fresh.{fresh_refusal, fresh_value}
use Prim.Native.Nat.{◌-◌}
use Rattle.resources.proofs.Whole.{resource_flat, resource_stops, resource_goes_on}
use Rattle.resources.proofs.add_resource.Goals as goal
use Rattle.std.specs.Prelude.{Err}

pub returns-then-depth-lt2 : goal.returns-then-depth-lt2
returns-then-depth-lt2 c = resource_flat _ _ _ _ _ _ _ _ _ c.if-depth-lt2.true (ap Err c.at.ensures)

pub evaluate-requires : goal.evaluate-requires
evaluate-requires c = resized c.requires.0 c.place-at.ensures.0

pub returns-in_err-value : goal.returns-in_err-value
unfolding no_labels
returns-in_err-value c =
    let handed_on : c.from_residual.result ≡ Err c.in_err-value.field-0.0 = grind arith in
    rw handed_on (resource_stops _ _ _ _ _ _ _ _ _ {b = c.args.depth - 1} (omega (arith, c.if-depth-lt2.false)) c.requires.0.manifest c.place-at.ensures (λ s. fresh_refusal refl (c.evaluate.ensures.1 s) c.in_err-value.was) refl)

pub returns : goal.returns
unfolding no_labels
returns c = resource_goes_on _ _ _ _ _ _ _ _ _ {b = c.args.depth - 1} (omega (arith, c.if-depth-lt2.false)) c.requires.0.manifest c.place-at.ensures (λ s. fresh_value refl (c.evaluate.ensures.1 s) c.in_ok-value.was c.in_words-labels.ensures) _ {inner = c.args.depth - 2} refl (omega (arith, c.if-depth-lt2.false)) c.add_titled.ensures
