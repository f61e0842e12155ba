-- `rigbanut_compile_with_types`: the answer of `compile_with_types`, in one word.
use Rattle.library.proofs.rigbanut_compile_with_types.Goals as goal

pub returns : goal.returns
returns c = record { answer = c.compile_with_types-answer.result; compiles = c.compile_with_types-answer.ensures; told = c.word_of.ensures }
