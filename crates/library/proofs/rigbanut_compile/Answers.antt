-- `rigbanut_compile`: the answer of `compile`, in one word.
use Rattle.library.proofs.rigbanut_compile.Goals as goal

pub returns : goal.returns
returns c = record { answer = c.compile-answer.result; compiles = c.compile-answer.ensures; told = c.word_of.ensures }
