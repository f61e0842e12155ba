-- `begin`: 32 fields are around, or the field around goes to its slot and a header is stored.
use Rattle.tree_builder.proofs.Opening.{begin_refused, begin_made}
use Rattle.notation.specs.Building.{act}
use Rattle.notation.specs.Tokens.{place_of}
use Rattle.tree_builder.specs.Shows.{DoesAt, Answers}
use native.Mathlib.Omega.{arith}
use Rattle.tree_builder.proofs.begin.Goals as goal

pub returns-then-s-ge32 : goal.returns-then-s-ge32
unfolding DoesAt Answers act
returns-then-s-ge32 c =
    let a = c.args in
    λ types table f x p shows. begin_refused table a.s a.frames.now a.out.now (place_of x) a.tag f (omega (arith, c.if-s-ge32.true)) shows

pub returns : goal.returns
unfolding DoesAt Answers act
returns c =
    let a = c.args in
    λ types table f x p shows. begin_made table a.s a.frames.now a.out.now (place_of x) a.tag f (omega arith) (omega arith) c.requires.0 c.requires.1 c.save.ensures c.put_header.ensures c.opened.ensures shows
