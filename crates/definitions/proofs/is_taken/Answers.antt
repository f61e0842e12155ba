-- `is_taken`: a built-in type, or a name that has a definition.
use Rattle.definitions.proofs.Definitions.{name_small, taken_built_in, taken_defined}
use native.Mathlib.Omega.{arith}
use Rattle.definitions.proofs.is_taken.Goals as goal

pub overflow_add-p : goal.overflow_add-p
overflow_add-p c = omega (arith, c.requires.0.manifest, c.requires.1.0.stands.stands.ends)

pub built_in-requires : goal.built_in-requires
built_in-requires c = (c.requires.0.memory, omega (arith, c.two_at-name.ensures, name_small _ _ c.requires.1.0 c.requires.1.1 _ c.requires.0))

pub definition_at-requires : goal.definition_at-requires
definition_at-requires c = (c.requires.0.memory, omega (arith, c.two_at-name.ensures, name_small _ _ c.requires.1.0 c.requires.1.1 _ c.requires.0))

pub returns-then-built_in : goal.returns-then-built_in
returns-then-built_in c = taken_built_in _ _ _ c.two_at-name.ensures c.built_in.ensures c.if-built_in.true

pub returns-else-built_in : goal.returns-else-built_in
returns-else-built_in c = taken_defined _ _ _ c.two_at-name.ensures c.built_in.ensures c.if-built_in.false c.definition_at.ensures
