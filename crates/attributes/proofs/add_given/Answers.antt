-- `add_given`: no such name, a value given before, or the store.
use mathlib.Core.Path.{◌≡◌}
use mathlib.Core.Bool.{true}
use native.Mathlib.Omega.{arith}
use Rattle.std.specs.Prelude.{None, is_some}
use Rattle.attributes.proofs.Table.{adds_past, adds_has, adds_put}
use Rattle.attributes.proofs.add_given.Goals as goal

pub returns-then-name-ge1024 : goal.returns-then-name-ge1024
returns-then-name-ge1024 c = adds_past _ _ _ c.if-name-ge1024.true

pub put_given-requires : goal.put_given-requires
put_given-requires c = c.requires c.if-name-ge1024.false

pub returns-then-is_none : goal.returns-then-is_none
returns-then-is_none c = let nothing : c.given.result ≡ None = grind arith in adds_put _ _ _ c.given.ensures nothing c.put_given.ensures

pub returns-else-is_none : goal.returns-else-is_none
returns-else-is_none c = let there : is_some c.given.result ≡ true = grind arith in adds_has _ _ _ c.given.ensures there
