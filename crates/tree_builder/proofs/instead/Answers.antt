-- `instead`: a header and the name, where the string constant stood.
use Rattle.tree_builder.proofs.Lifting.{word_made}
use native.Mathlib.Omega.{arith}
use Rattle.tree_builder.proofs.instead.Goals as goal

pub returns : goal.returns
returns c =
    let a = c.args in
    λ types. word_made types a.s a.frames.now a.out.now c.requires.1 c.requires.2 c.save.ensures a.tag (omega arith) c.requires.0 c.put_header.ensures c.put_two.ensures c.opened.ensures
