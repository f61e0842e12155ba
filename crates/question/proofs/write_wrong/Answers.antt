-- `write_wrong`: one text.
use native.Mathlib.Omega.{arith}
use Rattle.question.specs.Answers.{wrong_line}
use Rattle.question.proofs.write_wrong.Goals as goal

pub returns : goal.returns
unfolding wrong_line
returns c = (c.put_text.ensures, omega (arith, c.put_text.ensures.told))
