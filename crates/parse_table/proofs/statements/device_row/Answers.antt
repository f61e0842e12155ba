-- `device_row`: a text or a word.
use native.Mathlib.Omega.{arith}
use mathlib.Core.Path.{refl, sym, ap, ◌∙◌}
use mathlib.Core.List.{[], ◌∷◌}
use Rattle.notation.specs.Grammar.{device, row_of}
use Rattle.parse_table.specs.Codes.{action_of, actions_from, actions_in, symbol_of, symbols_onto, symbols_in}
use Rattle.parse_table.proofs.Packed.{absent}
use Rattle.notation.specs.Grammar.{device_rows}
use Rattle.parse_table.proofs.statements.device_row.Goals as goal

pub returns-in-2 : goal.returns-in-2
unfolding row_of actions_in actions_from action_of symbols_in symbols_onto symbol_of
returns-in-2 c = c.taken.ensures ∙ sym (ap (row_of device) c.in-2.is)

pub returns-in-0 : goal.returns-in-0
unfolding row_of actions_in actions_from action_of symbols_in symbols_onto symbol_of
returns-in-0 c = c.taken-in-0.ensures ∙ sym (ap (row_of device) c.in-0.is)

pub returns-in_default : goal.returns-in_default
unfolding row_of actions_in actions_from action_of symbols_in symbols_onto symbol_of
returns-in_default c = sym (absent (0 ∷ 2 ∷ []) device_rows c.args.kind refl ((tt, λ e. absurd (omega arith)), λ e. absurd (omega arith)))
