-- `upper_row`: each arm is the row of its symbol; the only other symbol takes nothing.
use mathlib.Core.Path.{refl, sym, ap, ◌∙◌}
use mathlib.Core.List.{[], ◌∷◌}
use native.Mathlib.Omega.{arith}
use Prim.Native.Nat.{ℕ}
use lib.Dec.{eqb}
use borrow.Author.Tests.{eqb-true}
use Rattle.format.proofs.Table.{elsewhere}
use Rattle.notation.specs.Grammar.{row_of}
use Rattle.parse_table.specs.Codes.{action_of, actions_from, actions_in, symbol_of, symbols_onto, symbols_in}
use Rattle.parse_table.proofs.table.upper_row.Goals as goal

pub returns-in-57 : goal.returns-in-57
unfolding row_of actions_in actions_from action_of symbols_in symbols_onto symbol_of
returns-in-57 c = c.only.ensures ∙ sym (ap (λ (s : ℕ). row_of (symbol_of s) c.args.kind) c.in-57.is)

pub returns-in-58 : goal.returns-in-58
unfolding row_of actions_in actions_from action_of symbols_in symbols_onto symbol_of
returns-in-58 c = c.only-in-58.ensures ∙ sym (ap (λ (s : ℕ). row_of (symbol_of s) c.args.kind) c.in-58.is)

pub returns-in-59 : goal.returns-in-59
unfolding row_of actions_in actions_from action_of symbols_in symbols_onto symbol_of
returns-in-59 c = c.devices_row.ensures ∙ sym (ap (λ (s : ℕ). row_of (symbol_of s) c.args.kind) c.in-59.is)

pub returns-in-60 : goal.returns-in-60
unfolding row_of actions_in actions_from action_of symbols_in symbols_onto symbol_of
returns-in-60 c = c.device_row.ensures ∙ sym (ap (λ (s : ℕ). row_of (symbol_of s) c.args.kind) c.in-60.is)

pub returns-in-61 : goal.returns-in-61
unfolding row_of actions_in actions_from action_of symbols_in symbols_onto symbol_of
returns-in-61 c = c.only-in-61.ensures ∙ sym (ap (λ (s : ℕ). row_of (symbol_of s) c.args.kind) c.in-61.is)

pub returns-in-63 : goal.returns-in-63
unfolding row_of actions_in actions_from action_of symbols_in symbols_onto symbol_of
returns-in-63 c = c.pattern_row.ensures ∙ sym (ap (λ (s : ℕ). row_of (symbol_of s) c.args.kind) c.in-63.is)

pub returns-in-66 : goal.returns-in-66
unfolding row_of actions_in actions_from action_of symbols_in symbols_onto symbol_of
returns-in-66 c = c.pattern_row-in-66.ensures ∙ sym (ap (λ (s : ℕ). row_of (symbol_of s) c.args.kind) c.in-66.is)

pub returns-in-64 : goal.returns-in-64
unfolding row_of actions_in actions_from action_of symbols_in symbols_onto symbol_of
returns-in-64 c = c.only-in-64.ensures ∙ sym (ap (λ (s : ℕ). row_of (symbol_of s) c.args.kind) c.in-64.is)

pub returns-in-67 : goal.returns-in-67
unfolding row_of actions_in actions_from action_of symbols_in symbols_onto symbol_of
returns-in-67 c = c.only-in-67.ensures ∙ sym (ap (λ (s : ℕ). row_of (symbol_of s) c.args.kind) c.in-67.is)

pub returns-in-65 : goal.returns-in-65
unfolding row_of actions_in actions_from action_of symbols_in symbols_onto symbol_of
returns-in-65 c = c.only-in-65.ensures ∙ sym (ap (λ (s : ℕ). row_of (symbol_of s) c.args.kind) c.in-65.is)

pub returns-in-68 : goal.returns-in-68
unfolding row_of actions_in actions_from action_of symbols_in symbols_onto symbol_of
returns-in-68 c = c.only-in-68.ensures ∙ sym (ap (λ (s : ℕ). row_of (symbol_of s) c.args.kind) c.in-68.is)

pub returns-in-69 : goal.returns-in-69
unfolding row_of actions_in actions_from action_of symbols_in symbols_onto symbol_of
returns-in-69 c = c.only-in-69.ensures ∙ sym (ap (λ (s : ℕ). row_of (symbol_of s) c.args.kind) c.in-69.is)

pub returns-in-70 : goal.returns-in-70
unfolding row_of actions_in actions_from action_of symbols_in symbols_onto symbol_of
returns-in-70 c = c.only-in-70.ensures ∙ sym (ap (λ (s : ℕ). row_of (symbol_of s) c.args.kind) c.in-70.is)

pub returns-in-71 : goal.returns-in-71
unfolding row_of actions_in actions_from action_of symbols_in symbols_onto symbol_of
returns-in-71 c = c.only-in-71.ensures ∙ sym (ap (λ (s : ℕ). row_of (symbol_of s) c.args.kind) c.in-71.is)

pub returns-in_default : goal.returns-in_default
unfolding row_of actions_in actions_from action_of symbols_in symbols_onto symbol_of
returns-in_default c = sym (ap (λ (s : ℕ). row_of (symbol_of s) c.args.kind) (eqb-true c.args.symbol 0x3e (elsewhere (λ s. eqb s 0x3e) (0x47 ∷ 0x46 ∷ 0x45 ∷ 0x44 ∷ 0x41 ∷ 0x43 ∷ 0x40 ∷ 0x42 ∷ 0x3f ∷ 0x3d ∷ 0x3c ∷ 0x3b ∷ 0x3a ∷ 0x39 ∷ []) 15 0x39 refl c.args.symbol c.requires.0 (omega arith) ((((((((((((((tt, λ e. absurd (omega arith)), λ e. absurd (omega arith)), λ e. absurd (omega arith)), λ e. absurd (omega arith)), λ e. absurd (omega arith)), λ e. absurd (omega arith)), λ e. absurd (omega arith)), λ e. absurd (omega arith)), λ e. absurd (omega arith)), λ e. absurd (omega arith)), λ e. absurd (omega arith)), λ e. absurd (omega arith)), λ e. absurd (omega arith)), λ e. absurd (omega arith)))))
