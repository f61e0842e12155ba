-- `statement_row`: each arm has the row of its kind; no other kind has one.
use mathlib.Core.Path.{refl, sym, ap, ◌∙◌}
use native.Mathlib.Omega.{arith}
use Prim.Native.Nat.{◌+◌}
use Rattle.notation.specs.Lexing.{find}
use Rattle.notation.specs.Grammar.{statement_rows}
use Rattle.parse_table.specs.Codes.{action_of, actions_from, actions_in, symbol_of, symbols_onto, symbols_in}
use Rattle.parse_table.proofs.Packed.{row_last}
use Rattle.parse_table.proofs.statements.statement_row.Goals as goal

pub returns-in-3 : goal.returns-in-3
unfolding actions_in actions_from action_of symbols_in symbols_onto symbol_of
returns-in-3 c = c.taken.ensures ∙ row_last 0x421 c.args.next 0x17313e (0x17313e00 + c.args.next) refl (omega arith) c.requires.0 c.requires.1 ∙ sym (ap (λ k. find k (statement_rows (symbol_of c.args.next))) c.in-3.is)

pub returns-in-29 : goal.returns-in-29
unfolding actions_in actions_from action_of symbols_in symbols_onto symbol_of
returns-in-29 c = c.taken-in-29.ensures ∙ row_last 0x22 c.args.next 0x3128293e (0x3128293e00 + c.args.next) refl (omega arith) c.requires.0 c.requires.1 ∙ sym (ap (λ k. find k (statement_rows (symbol_of c.args.next))) c.in-29.is)

pub returns-in-31 : goal.returns-in-31
unfolding actions_in actions_from action_of symbols_in symbols_onto symbol_of
returns-in-31 c = c.taken-in-31.ensures ∙ row_last 0x23 c.args.next 0x31072b083e (0x31072b083e00 + c.args.next) refl (omega arith) c.requires.0 c.requires.1 ∙ sym (ap (λ k. find k (statement_rows (symbol_of c.args.next))) c.in-31.is)

pub returns-in-0 : goal.returns-in-0
unfolding actions_in actions_from action_of symbols_in symbols_onto symbol_of
returns-in-0 c = c.taken-in-0.ensures ∙ row_last 0x408 c.args.next 0x07310d43083e (0x07310d43083e00 + c.args.next) refl (omega arith) c.requires.0 c.requires.1 ∙ sym (ap (λ k. find k (statement_rows (symbol_of c.args.next))) c.in-0.is)

pub returns-in-33 : goal.returns-in-33
unfolding actions_in actions_from action_of symbols_in symbols_onto symbol_of
returns-in-33 c = c.taken-in-33.ensures ∙ row_last 0x29 c.args.next 0x253e (0x253e00 + c.args.next) refl (omega arith) c.requires.0 c.requires.1 ∙ sym (ap (λ k. find k (statement_rows (symbol_of c.args.next))) c.in-33.is)
