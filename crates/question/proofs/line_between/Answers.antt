-- `line_between`: nothing, all that is left, or a part of it.
use mathlib.Core.Path.{refl}
use Rattle.question.specs.Lines.{line_between}
use Rattle.question.proofs.Reading.{nothing_between, between_past, between_all}
use Rattle.question.proofs.line_between.Goals as goal

pub returns-then-end-feed : goal.returns-then-end-feed
returns-then-end-feed c = nothing_between _ _ _ c.if-end-feed.true

pub returns-then-given-feed : goal.returns-then-given-feed
returns-then-given-feed c = between_past _ _ _ c.if-given-feed.true

pub returns-then-given-end : goal.returns-then-given-end
returns-then-given-end c = between_all _ _ _ c.if-given-end.true

pub returns : goal.returns
unfolding line_between
returns c = refl
