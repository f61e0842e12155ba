-- `inserted_at`: by the symbol, then by the kind.
use mathlib.Core.Path.{sym, ◌∙◌}
use Rattle.text_places.proofs.Logging.{before_parts, before_operand, at_last}
use Rattle.text_places.proofs.log.inserted_at.Goals as goal

pub returns-then-is_before_parts : goal.returns-then-is_before_parts
returns-then-is_before_parts c = before_parts _ _ _ _ _ (sym c.if-is_before_parts.true ∙ c.is_before_parts.ensures)

pub returns-then-is_operator : goal.returns-then-is_operator
returns-then-is_operator c = before_operand _ _ _ _ _ (sym c.if-is_before_parts.false ∙ c.is_before_parts.ensures) (sym c.if-is_operator.true ∙ c.is_operator.ensures)

pub returns : goal.returns
returns c = at_last _ _ _ _ _ (sym c.if-is_before_parts.false ∙ c.is_before_parts.ensures) (sym c.if-is_operator.false ∙ c.is_operator.ensures)
