-- `attribute_chains`: one, or as many as the bytes of the attributes tell.
use mathlib.Core.Path.{refl}
use Prim.Native.Nat.{◌+◌}
use native.Mathlib.Omega.{arith}
use borrow.Author.Tests.{lt-ltb, le-ltb}
use Rattle.catalog_index.specs.Index.{attribute_chains}
use Rattle.catalog_index.proofs.attribute_chains.Goals as goal

pub returns-then-end-entry : goal.returns-then-end-entry
unfolding attribute_chains
returns-then-end-entry c = let a = c.args in (rw (lt-ltb a.end (a.entry + 87) (omega (arith, c.if-end-entry.true))) refl, omega arith)

pub returns : goal.returns
unfolding attribute_chains
returns c = let a = c.args in (rw (le-ltb a.end (a.entry + 87) (omega arith)) refl, omega arith)
