-- `title_number`: of the bytes of `title`.
use Rattle.rules.specs.Compile.{title_text}
use Rattle.syntax.proofs.strings.title_number.Goals as goal

pub returns : goal.returns
unfolding title_text
returns c = c.string_number.ensures
