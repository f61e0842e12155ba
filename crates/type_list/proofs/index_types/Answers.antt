-- `index_types`: the fields of the list.
use native.Mathlib.Omega.{arith}
use Rattle.type_list.proofs.Searching.{short_list, types_listed}
use Rattle.type_list.proofs.index_types.Goals as goal

pub index_fields-requires : goal.index_fields-requires
index_fields-requires c = omega (arith, short_list _ c.requires.0)

pub returns : goal.returns
returns c = rw c.index_fields.ensures.1 (types_listed _ c.requires.0 _ c.requires.1 c.index_fields.ensures.0)
