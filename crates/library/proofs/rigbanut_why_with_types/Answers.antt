-- `rigbanut_why_with_types`: the answer of `explain_with_types`, in one word.
use Rattle.library.proofs.Words.{answers}
use Rattle.library.proofs.rigbanut_why_with_types.Goals as goal

pub returns : goal.returns
returns c = answers c.explain_with_types-explanation.ensures.told c.explanation_word.ensures
