-- `is_class`: past the last name, or by the tag of the definition.
use Rattle.evaluator.proofs.Names.{class_past, class_told}
use mathlib.Core.Bool.{false≢true}
use Rattle.evaluator.proofs.is_class.Goals as goal

pub returns-then-name-ge1024 : goal.returns-then-name-ge1024
returns-then-name-ge1024 c = (class_past _ _ _ c.if-name-ge1024.true, λ e. absurd (false≢true e))

pub returns : goal.returns
returns c = (class_told _ _ _ c.defined_tag.ensures, λ e. c.if-name-ge1024.false)
