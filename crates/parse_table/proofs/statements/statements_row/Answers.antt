-- `statements_row`: a class, or any other statement.
use mathlib.Core.Path.{sym, ap, ◌∙◌}
use borrow.Author.Tests.{ne_eqb}
use native.Mathlib.Omega.{arith}
use Rattle.notation.specs.Grammar.{statements, row_of}
use Rattle.parse_table.specs.Codes.{action_of, actions_from, actions_in, symbol_of, symbols_onto, symbols_in}
use Rattle.parse_table.proofs.statements.statements_row.Goals as goal

pub returns-in-32 : goal.returns-in-32
unfolding row_of actions_in actions_from action_of symbols_in symbols_onto symbol_of
returns-in-32 c = c.taken.ensures ∙ sym (ap (row_of statements) c.in-32.is)

pub returns-in_default : goal.returns-in_default
unfolding row_of actions_in actions_from action_of symbols_in symbols_onto symbol_of
returns-in_default c = c.statement_row.ensures ∙ sym (rw (ne_eqb c.args.kind 32 (λ e. absurd (omega arith))))
