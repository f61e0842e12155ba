-- `assignment`: a variable, a sign and an expression.
use native.Mathlib.Omega.{arith}
use Rattle.places.proofs.Open.{level}
use Rattle.statement_printer.proofs.PlainStatements.{assignment_here, assignment_passes}
use Rattle.statement_printer.proofs.plain.assignment.Goals as goal

pub overflow_sub-depth : goal.overflow_sub-depth
overflow_sub-depth c = omega (arith, level c.requires.stands.stands)

pub expression-requires : goal.expression-requires
expression-requires c = (c.requires.source, (assignment_here c.requires).value)

pub returns : goal.returns
returns c = assignment_passes _ _ _ (assignment_here c.requires) c.two_at.ensures c.write_variable-name.ensures c.write_mark-sign.ensures c.expression.ensures
