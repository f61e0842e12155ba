-- `lower_row`: each arm is the row of its symbol; the last one is the only other symbol.
use mathlib.Core.Path.{refl, sym, ap, ◌∙◌}
use mathlib.Core.List.{[], ◌∷◌}
use native.Mathlib.Omega.{arith}
use Prim.Native.Nat.{ℕ}
use lib.Dec.{eqb}
use borrow.Author.Tests.{eqb-true}
use Rattle.format.proofs.Table.{elsewhere}
use Rattle.notation.specs.Grammar.{row_of}
use Rattle.parse_table.specs.Codes.{action_of, actions_from, actions_in, symbol_of, symbols_onto, symbols_in}
use Rattle.parse_table.proofs.table.lower_row.Goals as goal

pub returns-in-37 : goal.returns-in-37
unfolding row_of actions_in actions_from action_of symbols_in symbols_onto symbol_of
returns-in-37 c = c.only.ensures ∙ sym (ap (λ (s : ℕ). row_of (symbol_of s) c.args.kind) c.in-37.is)

pub returns-in-38 : goal.returns-in-38
unfolding row_of actions_in actions_from action_of symbols_in symbols_onto symbol_of
returns-in-38 c = c.only-in-38.ensures ∙ sym (ap (λ (s : ℕ). row_of (symbol_of s) c.args.kind) c.in-38.is)

pub returns-in-39 : goal.returns-in-39
unfolding row_of actions_in actions_from action_of symbols_in symbols_onto symbol_of
returns-in-39 c = c.only-in-39.ensures ∙ sym (ap (λ (s : ℕ). row_of (symbol_of s) c.args.kind) c.in-39.is)

pub returns-in-40 : goal.returns-in-40
unfolding row_of actions_in actions_from action_of symbols_in symbols_onto symbol_of
returns-in-40 c = c.only-in-40.ensures ∙ sym (ap (λ (s : ℕ). row_of (symbol_of s) c.args.kind) c.in-40.is)

pub returns-in-41 : goal.returns-in-41
unfolding row_of actions_in actions_from action_of symbols_in symbols_onto symbol_of
returns-in-41 c = c.only-in-41.ensures ∙ sym (ap (λ (s : ℕ). row_of (symbol_of s) c.args.kind) c.in-41.is)

pub returns-in-42 : goal.returns-in-42
unfolding row_of actions_in actions_from action_of symbols_in symbols_onto symbol_of
returns-in-42 c = c.statements_row.ensures ∙ sym (ap (λ (s : ℕ). row_of (symbol_of s) c.args.kind) c.in-42.is)

pub returns-in-43 : goal.returns-in-43
unfolding row_of actions_in actions_from action_of symbols_in symbols_onto symbol_of
returns-in-43 c = c.pattern_row.ensures ∙ sym (ap (λ (s : ℕ). row_of (symbol_of s) c.args.kind) c.in-43.is)

pub returns-in-44 : goal.returns-in-44
unfolding row_of actions_in actions_from action_of symbols_in symbols_onto symbol_of
returns-in-44 c = c.items_row.ensures ∙ sym (ap (λ (s : ℕ). row_of (symbol_of s) c.args.kind) c.in-44.is)

pub returns-in-45 : goal.returns-in-45
unfolding row_of actions_in actions_from action_of symbols_in symbols_onto symbol_of
returns-in-45 c = c.class_row.ensures ∙ sym (ap (λ (s : ℕ). row_of (symbol_of s) c.args.kind) c.in-45.is)

pub returns-in-46 : goal.returns-in-46
unfolding row_of actions_in actions_from action_of symbols_in symbols_onto symbol_of
returns-in-46 c = c.only-in-46.ensures ∙ sym (ap (λ (s : ℕ). row_of (symbol_of s) c.args.kind) c.in-46.is)

pub returns-in-47 : goal.returns-in-47
unfolding row_of actions_in actions_from action_of symbols_in symbols_onto symbol_of
returns-in-47 c = c.only-in-47.ensures ∙ sym (ap (λ (s : ℕ). row_of (symbol_of s) c.args.kind) c.in-47.is)

pub returns-in_default : goal.returns-in_default
unfolding row_of actions_in actions_from action_of symbols_in symbols_onto symbol_of
returns-in_default c = c.constant_row.ensures ∙ sym (ap (λ (s : ℕ). row_of (symbol_of s) c.args.kind) (eqb-true c.args.symbol 0x30 (elsewhere (λ s. eqb s 0x30) (0x2f ∷ 0x2e ∷ 0x2d ∷ 0x2c ∷ 0x2b ∷ 0x2a ∷ 0x29 ∷ 0x28 ∷ 0x27 ∷ 0x26 ∷ 0x25 ∷ []) 12 0x25 refl c.args.symbol c.requires.0 (omega arith) (((((((((((tt, λ e. absurd (omega arith)), λ e. absurd (omega arith)), λ e. absurd (omega arith)), λ e. absurd (omega arith)), λ e. absurd (omega arith)), λ e. absurd (omega arith)), λ e. absurd (omega arith)), λ e. absurd (omega arith)), λ e. absurd (omega arith)), λ e. absurd (omega arith)), λ e. absurd (omega arith)))))
