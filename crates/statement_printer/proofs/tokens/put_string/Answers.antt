-- `put_string`: by the kind.
use native.Mathlib.Omega.{arith}
use Rattle.statement_printer.proofs.OneToken.{puts_word, puts_text, puts_variable, puts_top_variable}
use Rattle.statement_printer.proofs.tokens.put_string.Goals as goal

pub returns-in-0 : goal.returns-in-0
returns-in-0 c = puts_word _ c.in-0.is c.put_word.ensures

pub returns-in-2 : goal.returns-in-2
returns-in-2 c = puts_text _ c.in-2.is c.put_text.ensures

pub returns-in-3 : goal.returns-in-3
returns-in-3 c = puts_variable _ c.in-3.is c.put_variable.ensures

pub returns-in_default : goal.returns-in_default
returns-in_default c = puts_top_variable {k = c.args.kind} _ (λ e. absurd (omega arith)) (λ e. absurd (omega arith)) (λ e. absurd (omega arith)) c.put_top_variable.ensures
