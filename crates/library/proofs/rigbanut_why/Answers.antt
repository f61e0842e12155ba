-- `rigbanut_why`: the answer of `explain`, in one word.
use Rattle.library.proofs.Words.{answers}
use Rattle.library.proofs.rigbanut_why.Goals as goal

pub returns : goal.returns
returns c = answers c.explain-explanation.ensures.told c.explanation_word.ensures
