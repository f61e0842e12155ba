-- `operand_row`: each arm has the row of its kind; no other kind has one.
use mathlib.Core.Path.{refl, sym, ap, ◌∙◌}
use mathlib.Core.List.{[], ◌∷◌}
use native.Mathlib.Omega.{arith}
use Prim.Native.Nat.{◌+◌, ◌-◌, ◌*◌}
use Rattle.notation.specs.Grammar.{expression, operand_rows, row_of}
use Rattle.parse_table.specs.Codes.{action_of, actions_from, actions_in, symbol_of, symbols_onto, symbols_in}
use Rattle.parse_table.proofs.Packed.{row_last, code_behind, absent}
use Rattle.parse_table.proofs.expressions.operand_row.Goals as goal

pub returns-in-1 : goal.returns-in-1
unfolding row_of actions_in actions_from action_of symbols_in symbols_onto symbol_of
returns-in-1 c = c.taken.ensures ∙ row_last 2 (c.args.symbol * 8 - 0x139) 0 (c.args.symbol * 8 - 0x139) (code_behind c.args.symbol c.requires.0 c.requires.1) (omega arith) (omega arith) (omega arith) ∙ sym (ap (row_of (expression (c.args.symbol - 0x30))) c.in-1.is)

pub returns-in-2 : goal.returns-in-2
unfolding row_of actions_in actions_from action_of symbols_in symbols_onto symbol_of
returns-in-2 c = c.taken-in-2.ensures ∙ row_last 2 (c.args.symbol * 8 - 0x139) 0 (c.args.symbol * 8 - 0x139) (code_behind c.args.symbol c.requires.0 c.requires.1) (omega arith) (omega arith) (omega arith) ∙ sym (ap (row_of (expression (c.args.symbol - 0x30))) c.in-2.is)

pub returns-in-26 : goal.returns-in-26
unfolding row_of actions_in actions_from action_of symbols_in symbols_onto symbol_of
returns-in-26 c = c.taken-in-26.ensures ∙ row_last 2 (c.args.symbol * 8 - 0x139) 0 (c.args.symbol * 8 - 0x139) (code_behind c.args.symbol c.requires.0 c.requires.1) (omega arith) (omega arith) (omega arith) ∙ sym (ap (row_of (expression (c.args.symbol - 0x30))) c.in-26.is)

pub returns-in-27 : goal.returns-in-27
unfolding row_of actions_in actions_from action_of symbols_in symbols_onto symbol_of
returns-in-27 c = c.taken-in-27.ensures ∙ row_last 2 (c.args.symbol * 8 - 0x139) 0 (c.args.symbol * 8 - 0x139) (code_behind c.args.symbol c.requires.0 c.requires.1) (omega arith) (omega arith) (omega arith) ∙ sym (ap (row_of (expression (c.args.symbol - 0x30))) c.in-27.is)

pub returns-in-0 : goal.returns-in-0
unfolding row_of actions_in actions_from action_of symbols_in symbols_onto symbol_of
returns-in-0 c = c.taken-in-0.ensures ∙ row_last 2 (c.args.symbol * 8 - 0x139) 0x26 ((c.args.symbol * 8 - 0x139) + 0x2600) (code_behind c.args.symbol c.requires.0 c.requires.1) (omega arith) (omega arith) (omega arith) ∙ sym (ap (row_of (expression (c.args.symbol - 0x30))) c.in-0.is)

pub returns-in-3 : goal.returns-in-3
unfolding row_of actions_in actions_from action_of symbols_in symbols_onto symbol_of
returns-in-3 c = c.taken-in-3.ensures ∙ row_last 3 (c.args.symbol * 8 - 0x139) 0 (c.args.symbol * 8 - 0x139) (code_behind c.args.symbol c.requires.0 c.requires.1) (omega arith) (omega arith) (omega arith) ∙ sym (ap (row_of (expression (c.args.symbol - 0x30))) c.in-3.is)

pub returns-in-4 : goal.returns-in-4
unfolding row_of actions_in actions_from action_of symbols_in symbols_onto symbol_of
returns-in-4 c = c.taken-in-4.ensures ∙ row_last 3 (c.args.symbol * 8 - 0x139) 0 (c.args.symbol * 8 - 0x139) (code_behind c.args.symbol c.requires.0 c.requires.1) (omega arith) (omega arith) (omega arith) ∙ sym (ap (row_of (expression (c.args.symbol - 0x30))) c.in-4.is)

pub returns-in-17 : goal.returns-in-17
unfolding row_of actions_in actions_from action_of symbols_in symbols_onto symbol_of
returns-in-17 c = c.taken-in-17.ensures ∙ row_last 0x17 (c.args.symbol * 8 - 0x139) 0x383e ((c.args.symbol * 8 - 0x139) + 0x383e00) (code_behind c.args.symbol c.requires.0 c.requires.1) (omega arith) (omega arith) (omega arith) ∙ sym (ap (row_of (expression (c.args.symbol - 0x30))) c.in-17.is)

pub returns-in-9 : goal.returns-in-9
unfolding row_of actions_in actions_from action_of symbols_in symbols_onto symbol_of
returns-in-9 c = c.taken-in-9.ensures ∙ row_last 6 (c.args.symbol * 8 - 0x139) 0x3127 ((c.args.symbol * 8 - 0x139) + 0x312700) (code_behind c.args.symbol c.requires.0 c.requires.1) (omega arith) (omega arith) (omega arith) ∙ sym (ap (row_of (expression (c.args.symbol - 0x30))) c.in-9.is)

pub returns-in_default : goal.returns-in_default
unfolding row_of actions_in actions_from action_of symbols_in symbols_onto symbol_of
returns-in_default c = sym (absent (9 ∷ 17 ∷ 4 ∷ 3 ∷ 0 ∷ 27 ∷ 26 ∷ 2 ∷ 1 ∷ []) (operand_rows (c.args.symbol - 0x30)) c.args.kind refl (((((((((tt, λ e. absurd (omega arith)), λ e. absurd (omega arith)), λ e. absurd (omega arith)), λ e. absurd (omega arith)), λ e. absurd (omega arith)), λ e. absurd (omega arith)), λ e. absurd (omega arith)), λ e. absurd (omega arith)), λ e. absurd (omega arith)))
