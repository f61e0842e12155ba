-- `is_built_in_type`: by the string with this number.
use Rattle.printable.proofs.OneField.{built_in_named}
use Rattle.printable.proofs.fields.is_built_in_type.Goals as goal

pub returns : goal.returns
returns c = built_in_named _ _ _ c.string_at.ensures c.is_type.ensures
