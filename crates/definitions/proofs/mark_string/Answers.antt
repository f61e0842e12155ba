-- `mark_string`: the string is marked, or the memory stays.
use Rattle.definitions.proofs.Marking.{marked, unmarked}
use Rattle.definitions.proofs.mark_string.Goals as goal

pub is_type-requires : goal.is_type-requires
is_type-requires c = c.requires.0

pub returns-then-is_type : goal.returns-then-is_type
returns-then-is_type c = marked _ _ _ _ c.text_of-name.ensures c.is_type.ensures _ _ c.if-is_type.true c.set_built_in.ensures

pub returns-else-is_type : goal.returns-else-is_type
returns-else-is_type c = unmarked _ _ _ _ c.text_of-name.ensures c.is_type.ensures _ c.if-is_type.false
