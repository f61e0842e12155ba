-- `gather_item`: a definition, or another item.
use native.Mathlib.Omega.{arith}
use Rattle.definitions.proofs.Gathering.{is_definition_lem, no_definition}
use Rattle.definitions.proofs.gather_item.Goals as goal

pub gather_definition-requires : goal.gather_definition-requires
gather_definition-requires c = (c.requires.0, (c.requires.1, is_definition_lem c.requires.1 c.byte_at.ensures c.in-50.is))

pub returns-in-50 : goal.returns-in-50
returns-in-50 c = c.gather_definition.ensures

pub returns-in_default : goal.returns-in_default
returns-in_default c = no_definition c.requires.0 c.requires.1 c.byte_at.ensures (omega arith)
