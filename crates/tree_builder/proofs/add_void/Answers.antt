-- `add_void`: 32 fields are around, or a header is stored.
use Rattle.tree_builder.specs.Shows.{AnyToken}
use Rattle.tree_builder.proofs.Leaves.{void_refused, void_made}
use native.Mathlib.Omega.{arith}
use Rattle.tree_builder.proofs.add_void.Goals as goal

pub returns-then-s-ge32 : goal.returns-then-s-ge32
returns-then-s-ge32 c =
    let a = c.args in
    λ m types. void_refused types a.s m a.out.now AnyToken (omega (arith, c.if-s-ge32.true)) a.tag

pub returns : goal.returns
returns c =
    let a = c.args in
    λ m types. void_made types a.s m a.out.now (omega arith) a.tag (omega arith) c.put_header.ensures c.with_part.ensures
