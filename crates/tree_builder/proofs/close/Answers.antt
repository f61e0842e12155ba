-- `close`: no field is open, or its length is stored and the field around it comes from its slot.
use Rattle.tree_builder.proofs.Closing.{close_refused, close_made}
use Rattle.notation.specs.Building.{act}
use Rattle.tree_builder.specs.State.{slot_in}
use Rattle.tree_builder.specs.Shows.{DoesAt, Answers}
use native.Mathlib.Omega.{arith}
use Rattle.tree_builder.proofs.close.Goals as goal

pub returns-then-s-eq0 : goal.returns-then-s-eq0
unfolding DoesAt Answers act slot_in
returns-then-s-eq0 c =
    let a = c.args in
    λ types table f x p shows. close_refused types table a.s a.frames.now a.out.now x f (omega (arith, c.if-s-eq0.true)) shows

pub overflow_sub-size-2 : goal.overflow_sub-size-2
overflow_sub-size-2 c = omega (arith, c.requires.1.header (omega arith))

pub returns : goal.returns
unfolding DoesAt Answers act slot_in
returns c =
    let a = c.args in
    λ types table f x p shows. close_made types table a.s a.frames.now a.out.now x f (omega arith) c.requires.1 c.put_two.ensures c.number_in-slot.ensures c.closed.ensures shows
