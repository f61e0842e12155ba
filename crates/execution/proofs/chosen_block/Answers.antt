-- `chosen_block`: by the answer of the test.
use native.Mathlib.Omega.{arith}
use mathlib.Core.Path.{◌∙◌, ap}
use Rattle.wire.specs.Bytes.{end_of}
use Rattle.execution.proofs.chosen_block.Goals as goal

pub end_of-requires : goal.end_of-requires
end_of-requires c = omega (arith, c.requires.1, c.end_of-first.ensures)

pub returns-then-yes : goal.returns-then-yes
returns-then-yes c = rw c.if-yes.true c.end_of-first.ensures

pub returns-else-yes : goal.returns-else-yes
returns-else-yes c = rw c.if-yes.false (c.end_of.ensures ∙ ap (end_of c.args.m.now) c.end_of-first.ensures)
