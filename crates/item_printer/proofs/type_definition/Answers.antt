-- `type_definition`: a keyword, a name, parameters and a block.
use mathlib.Core.Path.{refl}
use native.Mathlib.Omega.{arith}
use Rattle.statement_printer.proofs.FirstLabel.{siblings_within}
use Rattle.statement_printer.proofs.PrintedExpressions.{siblings_at}
use Rattle.item_printer.proofs.PrintedItems.{block_found, block_here, type_here, type_passes}
use Rattle.item_printer.proofs.type_definition.Goals as goal

pub last_field-body-requires : goal.last_field-body-requires
last_field-body-requires c = let o = type_here c.requires in (omega (arith, siblings_within o.parameters, o.body.before, c.requires.stands.stands.ends, c.requires.source.short), omega (arith, c.end_of.ensures, c.requires.stands.stands.ends, c.requires.source.short))

pub parameters-given-requires : goal.parameters-given-requires
parameters-given-requires c = let o = type_here c.requires in let found = block_found c.last_field-body.ensures c.end_of.ensures o.parameters o.body in (c.requires.source, siblings_at refl refl found o.parameters, omega (arith, found, o.body.before, c.requires.stands.stands.ends, c.requires.source.short))

pub in_braces-requires : goal.in_braces-requires
in_braces-requires c = let o = type_here c.requires in (c.requires.source, block_here (block_found c.last_field-body.ensures c.end_of.ensures o.parameters o.body) o.body)

pub returns : goal.returns
returns c = let o = type_here c.requires in type_passes _ _ _ _ _ o (block_found c.last_field-body.ensures c.end_of.ensures o.parameters o.body) c.two_at.ensures c.write_mark-word.ensures c.write_word-name.ensures c.parameters-given.ensures c.in_braces.ensures
