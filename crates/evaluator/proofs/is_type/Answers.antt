-- `is_type`: past the last name, built in, or by the tag of the definition.
use Rattle.evaluator.proofs.Names.{type_past, type_built_in, type_told}
use Rattle.evaluator.proofs.is_type.Goals as goal

pub returns-then-name-ge1024 : goal.returns-then-name-ge1024
returns-then-name-ge1024 c = type_past _ _ _ c.if-name-ge1024.true

pub returns-then-built_in : goal.returns-then-built_in
returns-then-built_in c = type_built_in _ _ _ c.built_in.ensures c.if-built_in.true

pub returns : goal.returns
returns c = type_told _ _ _ c.built_in.ensures c.if-built_in.false c.defined_tag.ensures
