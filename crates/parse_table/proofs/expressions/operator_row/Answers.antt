-- `operator_row`: each arm has the row of its operator; no other kind is one.
use mathlib.Core.Path.{refl, sym, ap, ◌∙◌}
use mathlib.Core.List.{[], ◌∷◌}
use native.Mathlib.Omega.{arith}
use Prim.Native.Nat.{◌-◌, ◌/◌, ◌%◌}
use Rattle.notation.specs.Grammar.{operators, levels, binds, operator_byte, operator_in, row_of}
use Rattle.parse_table.specs.Codes.{action_of, actions_from, actions_in}
use Rattle.parse_table.proofs.Packed.{absent}
use Rattle.parse_table.proofs.expressions.operator_row.Goals as goal

pub returns-in-20 : goal.returns-in-20
unfolding row_of binds operator_byte actions_in actions_from action_of
returns-in-20 c = c.operation.ensures ∙ sym (ap (row_of (operators (c.args.symbol / 8 - 8) (c.args.symbol % 8))) c.in-20.is)

pub returns-in-18 : goal.returns-in-18
unfolding row_of binds operator_byte actions_in actions_from action_of
returns-in-18 c = c.operation-in-18.ensures ∙ sym (ap (row_of (operators (c.args.symbol / 8 - 8) (c.args.symbol % 8))) c.in-18.is)

pub returns-in-19 : goal.returns-in-19
unfolding row_of binds operator_byte actions_in actions_from action_of
returns-in-19 c = c.operation-in-19.ensures ∙ sym (ap (row_of (operators (c.args.symbol / 8 - 8) (c.args.symbol % 8))) c.in-19.is)

pub returns-in-22 : goal.returns-in-22
unfolding row_of binds operator_byte actions_in actions_from action_of
returns-in-22 c = c.operation-in-22.ensures ∙ sym (ap (row_of (operators (c.args.symbol / 8 - 8) (c.args.symbol % 8))) c.in-22.is)

pub returns-in-23 : goal.returns-in-23
unfolding row_of binds operator_byte actions_in actions_from action_of
returns-in-23 c = c.operation-in-23.ensures ∙ sym (ap (row_of (operators (c.args.symbol / 8 - 8) (c.args.symbol % 8))) c.in-23.is)

pub returns-in-21 : goal.returns-in-21
unfolding row_of binds operator_byte actions_in actions_from action_of
returns-in-21 c = c.operation-in-21.ensures ∙ sym (ap (row_of (operators (c.args.symbol / 8 - 8) (c.args.symbol % 8))) c.in-21.is)

pub returns-in-16 : goal.returns-in-16
unfolding row_of binds operator_byte actions_in actions_from action_of
returns-in-16 c = c.selector.ensures ∙ sym (ap (row_of (operators (c.args.symbol / 8 - 8) (c.args.symbol % 8))) c.in-16.is)

pub returns-in-24 : goal.returns-in-24
unfolding row_of binds operator_byte actions_in actions_from action_of
returns-in-24 c = c.operation-in-24.ensures ∙ sym (ap (row_of (operators (c.args.symbol / 8 - 8) (c.args.symbol % 8))) c.in-24.is)

pub returns-in-25 : goal.returns-in-25
unfolding row_of binds operator_byte actions_in actions_from action_of
returns-in-25 c = c.operation-in-25.ensures ∙ sym (ap (row_of (operators (c.args.symbol / 8 - 8) (c.args.symbol % 8))) c.in-25.is)

pub returns-in_default : goal.returns-in_default
unfolding row_of binds operator_byte actions_in actions_from action_of
returns-in_default c = sym (ap (operator_in (c.args.symbol / 8 - 8) (c.args.symbol % 8) c.args.kind) (absent (25 ∷ 24 ∷ 16 ∷ 21 ∷ 23 ∷ 22 ∷ 19 ∷ 18 ∷ 20 ∷ []) levels c.args.kind refl (((((((((tt, λ e. absurd (omega arith)), λ e. absurd (omega arith)), λ e. absurd (omega arith)), λ e. absurd (omega arith)), λ e. absurd (omega arith)), λ e. absurd (omega arith)), λ e. absurd (omega arith)), λ e. absurd (omega arith)), λ e. absurd (omega arith))))
