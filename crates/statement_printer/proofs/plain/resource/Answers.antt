-- `resource`: type, title and attributes.
use mathlib.Core.Path.{refl}
use native.Mathlib.Omega.{arith}
use Rattle.statement_printer.proofs.PrintedExpressions.{siblings_at}
use Rattle.statement_printer.proofs.PlainStatements.{resource_passes}
use Rattle.statement_printer.proofs.plain.resource.Goals as goal

pub overflow_add-p-3 : goal.overflow_add-p-3
overflow_add-p-3 c = omega (arith, c.requires.1.stands.ends, c.requires.0.short)

pub end_of-requires : goal.end_of-requires
end_of-requires c = omega (arith, c.requires.1.stands.ends, c.requires.0.short)

pub end_of-requires-2 : goal.end_of-requires-2
end_of-requires-2 c = omega (arith, c.requires.3)

pub attributes-all-requires : goal.attributes-all-requires
attributes-all-requires c = (c.requires.0, siblings_at refl c.end_of.ensures c.end_of-2.ensures c.requires.2, omega (arith, c.end_of-2.ensures, c.requires.3))

pub returns : goal.returns
returns c = resource_passes _ _ _ _ _ _ _ _ c.two_at.ensures c.end_of.ensures c.end_of-2.ensures c.write_word-kind.ensures c.write_mark-open.ensures c.expression-title.ensures c.write_mark-colon.ensures c.attributes-all.ensures c.write_mark.ensures
