-- `start`: nothing is kept.
use Rattle.input.proofs.Feeding.{nothing_read}
use Rattle.input.proofs.start.Goals as goal

pub returns : goal.returns
returns c = λ d m. nothing_read d m
