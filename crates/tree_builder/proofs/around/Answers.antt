-- `around`: no part, too deep, or a header before the last part.
use mathlib.Core.List.{[]}
use Rattle.tree_builder.proofs.Lifting.{flat_refused, deep_refused, plain_made}
use native.Mathlib.Omega.{arith}
use Rattle.tree_builder.proofs.around.Goals as goal

pub returns-then-s-eq0 : goal.returns-then-s-eq0
returns-then-s-eq0 c =
    let a = c.args in
    λ types. flat_refused types a.s a.frames.now a.out.now a.tag [] (omega (arith, c.if-s-eq0.true))

pub returns-then-s-ge32 : goal.returns-then-s-ge32
returns-then-s-ge32 c =
    let a = c.args in
    λ types. deep_refused types a.s a.frames.now a.out.now a.tag [] (omega (arith, c.if-s-ge32.true))

pub returns : goal.returns
returns c =
    let a = c.args in
    λ types. plain_made types a.s a.frames.now a.out.now c.requires.0 c.requires.1 c.lift.ensures.0 a.tag (omega arith) (omega arith) (omega arith) c.lift.ensures.1 c.lifted.ensures
