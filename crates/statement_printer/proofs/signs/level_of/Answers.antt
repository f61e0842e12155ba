-- `level_of`: by the number.
use Prim.Native.Nat.{ℕ}
use mathlib.Core.Path.{sym, ap}
use native.Mathlib.Omega.{arith}
use Rattle.rules.specs.Read.{entry_for, operators, operator_from}
use Rattle.notation.specs.Print.{level_of}
use Rattle.statement_printer.proofs.OperatorSigns.{last_operator}
use Rattle.statement_printer.proofs.signs.level_of.Goals as goal

pub returns-in-0 : goal.returns-in-0
unfolding operator_from entry_for operators level_of
returns-in-0 c = sym (ap (λ (n : ℕ). level_of (operator_from n)) c.in-0.is)

pub returns-in-1 : goal.returns-in-1
unfolding operator_from entry_for operators level_of
returns-in-1 c = sym (ap (λ (n : ℕ). level_of (operator_from n)) c.in-1.is)

pub returns-in-2 : goal.returns-in-2
unfolding operator_from entry_for operators level_of
returns-in-2 c = sym (ap (λ (n : ℕ). level_of (operator_from n)) c.in-2.is)

pub returns-in-3 : goal.returns-in-3
unfolding operator_from entry_for operators level_of
returns-in-3 c = sym (ap (λ (n : ℕ). level_of (operator_from n)) c.in-3.is)

pub returns-in-4 : goal.returns-in-4
unfolding operator_from entry_for operators level_of
returns-in-4 c = sym (ap (λ (n : ℕ). level_of (operator_from n)) c.in-4.is)

pub returns-in-5 : goal.returns-in-5
unfolding operator_from entry_for operators level_of
returns-in-5 c = sym (ap (λ (n : ℕ). level_of (operator_from n)) c.in-5.is)

pub returns-in_default : goal.returns-in_default
unfolding level_of
returns-in_default c = sym (ap level_of (last_operator _ (λ e. absurd (omega arith)) (λ e. absurd (omega arith)) (λ e. absurd (omega arith)) (λ e. absurd (omega arith)) (λ e. absurd (omega arith)) (λ e. absurd (omega arith))))
