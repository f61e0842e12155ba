-- `around_operator`: no part, too deep, or a header before the last part.
use Rattle.notation.specs.Building.{byte}
use mathlib.Core.List.{◌∷◌, []}
use Rattle.tree_builder.proofs.Lifting.{flat_refused, deep_refused, operator_made}
use native.Mathlib.Omega.{arith}
use Rattle.tree_builder.proofs.around_operator.Goals as goal

pub returns-then-s-eq0 : goal.returns-then-s-eq0
returns-then-s-eq0 c =
    let a = c.args in
    λ types. flat_refused types a.s a.frames.now a.out.now a.tag (byte a.operator ∷ []) (omega (arith, c.if-s-eq0.true))

pub returns-then-s-ge32 : goal.returns-then-s-ge32
returns-then-s-ge32 c =
    let a = c.args in
    λ types. deep_refused types a.s a.frames.now a.out.now a.tag (byte a.operator ∷ []) (omega (arith, c.if-s-ge32.true))

pub returns : goal.returns
returns c =
    let a = c.args in
    λ types. operator_made types a.s a.frames.now a.out.now c.requires.0 c.requires.1 c.lift.ensures.0 a.tag (omega (arith, c.ranges.tag)) a.operator (omega (arith, c.ranges.operator)) (omega (arith, c.if-s-eq0.false)) (omega (arith, c.if-s-ge32.false)) c.lift.ensures.1 c.put_byte.ensures c.lifted.ensures
