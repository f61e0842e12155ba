-- `line_after`: nothing is left, or the line up to the next line feed.
use native.Mathlib.Omega.{arith}
use Rattle.question.proofs.Reading.{no_line, a_line, line_within}
use Rattle.question.proofs.line_after.Goals as goal

pub returns-then-given-feed : goal.returns-then-given-feed
returns-then-given-feed c = no_line _ _ c.if-given-feed.true

pub overflow_add-result-2 : goal.overflow_add-result-2
overflow_add-result-2 c = omega (arith, line_within _ _ c.if-given-feed.false c.after.ensures c.feed_place.ensures)

pub returns : goal.returns
returns c = a_line _ _ c.if-given-feed.false c.after.ensures c.feed_place.ensures
