-- `define`: the definition's place is stored under its name.
use Rattle.definitions.proofs.Definitions.{name_small, now_defined}
use mathlib.Core.Path.{refl}
use native.Mathlib.Omega.{arith}
use Rattle.definitions.proofs.define.Goals as goal

pub overflow_add-p : goal.overflow_add-p
overflow_add-p c = omega (arith, c.requires.0.manifest, c.requires.1.0.stands.stands.ends)

pub overflow_cast-p : goal.overflow_cast-p
overflow_cast-p c = omega (arith, c.requires.0.manifest, c.requires.1.0.stands.stands.ends)

pub set_definition-requires : goal.set_definition-requires
set_definition-requires c = (c.requires.0.memory, omega (arith, c.two_at.ensures, name_small _ _ c.requires.1.0 c.requires.1.1 _ c.requires.0))

pub returns : goal.returns
returns c = now_defined _ _ _ _ c.requires.0 c.requires.1.0 c.requires.1.1 c.two_at.ensures refl c.set_definition.auto.work c.set_definition.ensures
