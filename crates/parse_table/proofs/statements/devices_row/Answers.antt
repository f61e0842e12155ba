-- `devices_row`: default, a bracket, or a device.
use native.Mathlib.Omega.{arith}
use mathlib.Core.Path.{sym, ap, ◌∙◌}
use borrow.Author.Tests.{ne_eqb}
use Rattle.notation.specs.Grammar.{devices, row_of}
use Rattle.parse_table.specs.Codes.{action_of, actions_from, actions_in, symbol_of, symbols_onto, symbols_in}
use Rattle.parse_table.proofs.statements.devices_row.Goals as goal

pub returns-in-28 : goal.returns-in-28
unfolding row_of actions_in actions_from action_of symbols_in symbols_onto symbol_of
returns-in-28 c = c.taken.ensures ∙ sym (ap (row_of devices) c.in-28.is)

pub returns-in-9 : goal.returns-in-9
unfolding row_of actions_in actions_from action_of symbols_in symbols_onto symbol_of
returns-in-9 c = c.taken-in-9.ensures ∙ sym (ap (row_of devices) c.in-9.is)

pub returns-in_default : goal.returns-in_default
unfolding row_of actions_in actions_from action_of symbols_in symbols_onto symbol_of
returns-in_default c = c.device_row.ensures ∙ sym (rw (ne_eqb c.args.kind 28 (λ e. absurd (omega arith)), ne_eqb c.args.kind 9 (λ e. absurd (omega arith))))
