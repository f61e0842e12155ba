-- `stride`: by what follows the pieces.
use Rattle.rules.specs.Format.{form_of}
use Rattle.format.proofs.Line.{into_fields, past_end}
use Rattle.format.proofs.lines.stride.Goals as goal

pub returns-then-has_fields : goal.returns-then-has_fields
returns-then-has_fields c t e = into_fields (form_of t) _ (c.has_fields.ensures t e) (c.head_size.ensures t e) c.if-has_fields.true

pub returns-else-has_fields : goal.returns-else-has_fields
returns-else-has_fields c t e = past_end (form_of t) _ (c.has_fields.ensures t e) c.if-has_fields.false
