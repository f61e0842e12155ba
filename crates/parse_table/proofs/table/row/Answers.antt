-- `row`: by the group of the symbol.
use mathlib.Core.Path.{sym, ap, ◌∙◌}
use native.Mathlib.Omega.{arith}
use Rattle.notation.specs.Grammar.{Symbol, row_of}
use Rattle.parse_table.specs.Codes.{action_of, actions_from, actions_in, symbol_of, symbols_onto, symbols_in}
use Rattle.parse_table.proofs.Packed.{code_sign, code_expression, code_operators}
use Rattle.parse_table.proofs.table.row.Goals as goal

pub returns-then-symbol-lt-A_NAME : goal.returns-then-symbol-lt-A_NAME
unfolding row_of actions_in actions_from action_of symbols_in symbols_onto symbol_of
returns-then-symbol-lt-A_NAME c = c.only.ensures ∙ sym (ap (λ (s : Symbol). row_of s c.args.kind) (code_sign _ c.if-symbol-lt-A_NAME.true))

pub returns-then-symbol-lt-INHERITS : goal.returns-then-symbol-lt-INHERITS
unfolding row_of actions_in actions_from action_of symbols_in symbols_onto symbol_of
returns-then-symbol-lt-INHERITS c = c.operand_row.ensures ∙ sym (ap (λ (s : Symbol). row_of s c.args.kind) (code_expression _ (omega arith) (omega arith)))

pub returns : goal.returns
unfolding row_of actions_in actions_from action_of symbols_in symbols_onto symbol_of
returns c = c.operator_row.ensures ∙ sym (ap (λ (s : Symbol). row_of s c.args.kind) (code_operators _ (omega arith)))
