-- `class_with_attributes`: a keyword, a name and attributes.
use mathlib.Core.Path.{refl}
use native.Mathlib.Omega.{arith}
use Rattle.places.proofs.Open.{level}
use Rattle.statement_printer.proofs.PrintedExpressions.{siblings_at}
use Rattle.statement_printer.proofs.PlainStatements.{class_here, class_passes}
use Rattle.statement_printer.proofs.plain.class_with_attributes.Goals as goal

pub overflow_sub-depth : goal.overflow_sub-depth
overflow_sub-depth c = omega (arith, level c.requires.stands.stands)

pub overflow_add-p-2 : goal.overflow_add-p-2
overflow_add-p-2 c = omega (arith, c.requires.stands.stands.ends, c.requires.source.short)

pub end_of-requires : goal.end_of-requires
end_of-requires c = omega (arith, c.requires.stands.stands.ends, c.requires.source.short)

pub attributes-all-requires : goal.attributes-all-requires
attributes-all-requires c = (c.requires.source, siblings_at refl refl c.end_of.ensures (class_here c.requires).attributes, omega (arith, c.end_of.ensures, c.requires.stands.stands.ends, c.requires.source.short))

pub returns : goal.returns
returns c = class_passes _ _ _ _ _ (class_here c.requires) c.two_at.ensures c.end_of.ensures c.write_mark-word.ensures c.write_mark-open.ensures c.write_word-name.ensures c.write_mark-colon.ensures c.attributes-all.ensures c.write_mark.ensures
