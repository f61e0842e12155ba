-- `is_marked`: among the fields, or by the mark of the name.
use mathlib.Core.Path.{refl}
use Rattle.attributes.proofs.Repeats.{marked_so}
use Rattle.attributes.proofs.is_marked.Goals as goal

pub returns : goal.returns
returns c = marked_so _ c.args.seen.now _ _ _ c.byte_at.ensures c.if-name-ge1024.false refl
