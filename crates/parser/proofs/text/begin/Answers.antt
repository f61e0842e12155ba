-- `begin`: the symbols of a manifest, and nothing built.
use mathlib.Core.Path.{refl}
use native.Mathlib.Omega.{arith}
use Rattle.parser.proofs.text.begin.Goals as goal

pub push-top-requires : goal.push-top-requires
push-top-requires c = (omega arith, omega (arith, c.requires))

pub returns : goal.returns
returns c = record { top = _; building = _; is = refl; pushed = c.push-top.ensures; fresh = c.nothing.ensures }
