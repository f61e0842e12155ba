-- `set_word`: two bytes stored.
use native.Mathlib.Omega.{arith}
use Rattle.memory.proofs.Words.{word_way}
use Rattle.memory.proofs.set_word.Goals as goal

pub returns : goal.returns
returns c =
    word_way _ _ _ _ c.requires.0 c.requires.1 (omega arith) c.put_two.ensures
