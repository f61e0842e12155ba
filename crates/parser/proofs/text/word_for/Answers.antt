-- `word_for`: by the kind.
use borrow.Author.Tests.{ne_eqb}
use Rattle.parser.specs.Reading.{word_for}
use Rattle.parser.proofs.text.word_for.Goals as goal

pub returns-then-kind-eq-LEFT_SQUARE : goal.returns-then-kind-eq-LEFT_SQUARE
unfolding word_for
returns-then-kind-eq-LEFT_SQUARE c = rw c.if-kind-eq-LEFT_SQUARE.true

pub returns : goal.returns
unfolding word_for
returns c = rw (ne_eqb c.args.kind 11 c.if-kind-eq-LEFT_SQUARE.false)
