-- `rigbanut_print`: the answer of `print`, in one word.
use Rattle.library.proofs.Words.{tells}
use Rattle.library.proofs.rigbanut_print.Goals as goal

pub returns : goal.returns
returns c = tells c.print-answer.ensures.effect c.text_word.ensures
