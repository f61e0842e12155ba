-- `item`: by the tag.
use native.Mathlib.Omega.{arith}
use Rattle.item_printer.proofs.PrintedItems.{statement_here, statement_passes}
use Rattle.item_printer.proofs.item.Goals as goal

pub statement-requires : goal.statement-requires
statement-requires c = (c.requires.0, statement_here c.requires.1 c.byte_at.ensures (λ e. absurd (omega arith)) (λ e. absurd (omega arith)) (λ e. absurd (omega arith)))

pub returns-in_default : goal.returns-in_default
returns-in_default c = statement_passes _ _ _ _ (statement_here c.requires.1 c.byte_at.ensures (λ e. absurd (omega arith)) (λ e. absurd (omega arith)) (λ e. absurd (omega arith))) c.statement.ensures
