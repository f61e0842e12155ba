-- `store_parameter`: where there is a value, it is stored.
use mathlib.Core.Path.{◌≡◌}
use native.Mathlib.Omega.{arith}
use Rattle.std.specs.Prelude.{Some, None}
use Rattle.parameters.proofs.Storing.{store_nothing, store_value}
use Rattle.parameters.proofs.store_parameter.Goals as goal

pub store-requires : goal.store-requires
store-requires c = (c.requires.1.0, (omega (arith, c.two_at.ensures, c.requires.1.1), c.requires.0))

pub returns-in_err-x : goal.returns-in_err-x
returns-in_err-x c = let nothing : c.value_of.result ≡ None = grind arith in store_nothing c.value_of.ensures _ nothing

pub returns : goal.returns
returns c = let there : c.value_of.result ≡ Some c.in_ok-x.x = grind arith in store_value c.value_of.ensures _ there c.two_at.ensures c.store.ensures
