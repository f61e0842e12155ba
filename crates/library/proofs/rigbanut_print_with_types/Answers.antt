-- `rigbanut_print_with_types`: the answer of `print_with_types`, in one word.
use Rattle.library.proofs.Words.{tells}
use Rattle.library.proofs.rigbanut_print_with_types.Goals as goal

pub returns : goal.returns
returns c = tells c.print_with_types-answer.ensures.effect c.text_word.ensures
