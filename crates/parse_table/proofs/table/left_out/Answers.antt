-- `left_out`: each arm is what its symbol says; no other symbol may be left out.
use mathlib.Core.Path.{refl, sym, ap}
use mathlib.Core.List.{[], ◌∷◌}
use native.Mathlib.Omega.{arith}
use Prim.Native.Nat.{ℕ}
use Rattle.format.proofs.Table.{elsewhere}
use Rattle.notation.specs.Grammar.{left_out}
use Rattle.parse_table.specs.Codes.{action_of, actions_from, actions_in, symbol_of, symbols_onto, symbols_in}
use Rattle.parse_table.proofs.Packed.{code_operators, is_none, none_told}
use Rattle.parse_table.proofs.table.left_out.Goals as goal

pub returns-then-symbol-ge-OPERATORS : goal.returns-then-symbol-ge-OPERATORS
unfolding left_out actions_in actions_from action_of symbols_in symbols_onto symbol_of
returns-then-symbol-ge-OPERATORS c = sym (ap left_out (code_operators _ c.if-symbol-ge-OPERATORS.true))

pub returns-in-41 : goal.returns-in-41
unfolding left_out actions_in actions_from action_of symbols_in symbols_onto symbol_of
returns-in-41 c = sym (ap (λ (s : ℕ). left_out (symbol_of s)) c.in-41.is)

pub returns-in-62 : goal.returns-in-62
unfolding left_out actions_in actions_from action_of symbols_in symbols_onto symbol_of
returns-in-62 c = sym (ap (λ (s : ℕ). left_out (symbol_of s)) c.in-62.is)

pub returns-in-38 : goal.returns-in-38
unfolding left_out actions_in actions_from action_of symbols_in symbols_onto symbol_of
returns-in-38 c = sym (ap (λ (s : ℕ). left_out (symbol_of s)) c.in-38.is)

pub returns-in-46 : goal.returns-in-46
unfolding left_out actions_in actions_from action_of symbols_in symbols_onto symbol_of
returns-in-46 c = sym (ap (λ (s : ℕ). left_out (symbol_of s)) c.in-46.is)

pub returns-in-47 : goal.returns-in-47
unfolding left_out actions_in actions_from action_of symbols_in symbols_onto symbol_of
returns-in-47 c = sym (ap (λ (s : ℕ). left_out (symbol_of s)) c.in-47.is)

pub returns-in-57 : goal.returns-in-57
unfolding left_out actions_in actions_from action_of symbols_in symbols_onto symbol_of
returns-in-57 c = sym (ap (λ (s : ℕ). left_out (symbol_of s)) c.in-57.is)

pub returns-in-61 : goal.returns-in-61
unfolding left_out actions_in actions_from action_of symbols_in symbols_onto symbol_of
returns-in-61 c = sym (ap (λ (s : ℕ). left_out (symbol_of s)) c.in-61.is)

pub returns-in-42 : goal.returns-in-42
unfolding left_out actions_in actions_from action_of symbols_in symbols_onto symbol_of
returns-in-42 c = sym (ap (λ (s : ℕ). left_out (symbol_of s)) c.in-42.is)

pub returns-in-43 : goal.returns-in-43
unfolding left_out actions_in actions_from action_of symbols_in symbols_onto symbol_of
returns-in-43 c = sym (ap (λ (s : ℕ). left_out (symbol_of s)) c.in-43.is)

pub returns-in-44 : goal.returns-in-44
unfolding left_out actions_in actions_from action_of symbols_in symbols_onto symbol_of
returns-in-44 c = sym (ap (λ (s : ℕ). left_out (symbol_of s)) c.in-44.is)

pub returns-in-66 : goal.returns-in-66
unfolding left_out actions_in actions_from action_of symbols_in symbols_onto symbol_of
returns-in-66 c = sym (ap (λ (s : ℕ). left_out (symbol_of s)) c.in-66.is)

pub returns-in-67 : goal.returns-in-67
unfolding left_out actions_in actions_from action_of symbols_in symbols_onto symbol_of
returns-in-67 c = sym (ap (λ (s : ℕ). left_out (symbol_of s)) c.in-67.is)

pub returns-in-68 : goal.returns-in-68
unfolding left_out actions_in actions_from action_of symbols_in symbols_onto symbol_of
returns-in-68 c = sym (ap (λ (s : ℕ). left_out (symbol_of s)) c.in-68.is)

pub returns-in-69 : goal.returns-in-69
unfolding left_out actions_in actions_from action_of symbols_in symbols_onto symbol_of
returns-in-69 c = sym (ap (λ (s : ℕ). left_out (symbol_of s)) c.in-69.is)

pub returns-in-70 : goal.returns-in-70
unfolding left_out actions_in actions_from action_of symbols_in symbols_onto symbol_of
returns-in-70 c = sym (ap (λ (s : ℕ). left_out (symbol_of s)) c.in-70.is)

pub returns-in-71 : goal.returns-in-71
unfolding left_out actions_in actions_from action_of symbols_in symbols_onto symbol_of
returns-in-71 c = sym (ap (λ (s : ℕ). left_out (symbol_of s)) c.in-71.is)

pub returns-in_default : goal.returns-in_default
unfolding left_out actions_in actions_from action_of symbols_in symbols_onto symbol_of
returns-in_default c = none_told _ (elsewhere (λ s. is_none (left_out (symbol_of s))) (0x47 ∷ 0x46 ∷ 0x45 ∷ 0x44 ∷ 0x43 ∷ 0x42 ∷ 0x2c ∷ 0x2b ∷ 0x2a ∷ 0x3d ∷ 0x39 ∷ 0x2f ∷ 0x2e ∷ 0x26 ∷ 0x3e ∷ 0x29 ∷ []) 72 0 refl c.args.symbol (omega arith) (omega arith) ((((((((((((((((tt, λ e. absurd (omega arith)), λ e. absurd (omega arith)), λ e. absurd (omega arith)), λ e. absurd (omega arith)), λ e. absurd (omega arith)), λ e. absurd (omega arith)), λ e. absurd (omega arith)), λ e. absurd (omega arith)), λ e. absurd (omega arith)), λ e. absurd (omega arith)), λ e. absurd (omega arith)), λ e. absurd (omega arith)), λ e. absurd (omega arith)), λ e. absurd (omega arith)), λ e. absurd (omega arith)), λ e. absurd (omega arith)))
