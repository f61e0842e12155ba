-- `index_strings`: the fields of the 01.
use native.Mathlib.Omega.{arith}
use Rattle.rules.specs.Bytes.{two}
use Rattle.syntax.proofs.Index.{all_counted, all_indexed}
use Rattle.syntax.proofs.strings.index_strings.Goals as goal

pub index_fields-requires : goal.index_fields-requires
unfolding two
index_fields-requires c = omega (arith, c.type_inv.m 1, c.type_inv.m 2, c.end_of.ensures)

pub returns : goal.returns
returns c = (all_counted _ c.end_of.ensures c.index_fields.ensures.0, all_indexed _ _ c.end_of.ensures c.index_fields.ensures.1)
