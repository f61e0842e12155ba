-- `is_struck`: none is, or this one may be.
use mathlib.Core.Path.{sym, ◌∙◌}
use Rattle.evaluator.proofs.Constants.{nothing_struck, struck_told}
use Rattle.evaluator.proofs.is_struck.Goals as goal

pub returns-then-none_struck_out : goal.returns-then-none_struck_out
returns-then-none_struck_out c = nothing_struck _ _ _ (sym c.none_struck_out.ensures ∙ c.if-none_struck_out.true)

pub returns : goal.returns
returns c = struck_told _ _ _ c.byte_at.ensures c.is_struck_out.ensures.0
