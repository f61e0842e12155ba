-- `rigbanut_convert`: the answer of `convert`, in one word.
use Rattle.library.proofs.Words.{tells}
use Rattle.library.proofs.rigbanut_convert.Goals as goal

pub returns : goal.returns
returns c = tells c.convert-answer.ensures.effect c.text_word.ensures
