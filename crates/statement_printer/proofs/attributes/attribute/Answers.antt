-- `attribute`: a comma if one is wanted, name, arrow and expression.
use native.Mathlib.Omega.{arith}
use Rattle.places.proofs.Open.{level}
use Rattle.statement_printer.proofs.PrintedEntries.{attribute_here_lem, attribute_passes}
use Rattle.statement_printer.proofs.attributes.attribute.Goals as goal

pub first_label-line-requires : goal.first_label-line-requires
first_label-line-requires c = let o = attribute_here_lem c.requires.1 in (omega (arith, c.end_of.ensures, o.expression.stands.ends), c.requires.0.short)

pub overflow_sub-depth : goal.overflow_sub-depth
overflow_sub-depth c = omega (arith, level c.requires.1.stands)

pub expression-requires : goal.expression-requires
expression-requires c = (c.requires.0, (attribute_here_lem c.requires.1).expression)

pub returns : goal.returns
returns c = attribute_passes _ _ _ _ _ c.requires.1 c.two_at.ensures c.end_of.ensures c.first_label-line.ensures c.separate-begun.ensures c.write_word-name.ensures c.write_mark-sign.ensures c.expression.ensures
