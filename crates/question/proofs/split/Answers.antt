-- `split`: a line feed is missing, or the fifth line says what is asked.
use native.Mathlib.Omega.{arith}
use Rattle.question.proofs.Reading.{feed_missing, by_line}
use Rattle.question.proofs.split.Goals as goal

pub returns-then-given-lines : goal.returns-then-given-lines
returns-then-given-lines c = feed_missing _ c.lines_of-lines.ensures c.if-given-lines.true

pub returns : goal.returns
returns c =
    by_line _ c.lines_of-lines.ensures c.if-given-lines.false c.line_between.ensures (omega arith) c.ask.ensures
