-- `recall`: a word at a time.
use native.Mathlib.Omega.{arith}
use Rattle.branches.proofs.Joining.{joining, joined_word}
use mathlib.Core.Path.{refl, ◌∙◌}
use Rattle.summaries.proofs.Lines.{line_number_lem, recalled}
use Rattle.summaries.proofs.recall.Goals as goal

pub loop-i-init : goal.loop-i-init
loop-i-init c = joining _ _

pub loop-i-preserved : goal.loop-i-preserved
loop-i-preserved c = joined_word c.loop-i.invariant (c.number_in.ensures ∙ line_number_lem _ _ _ c.loop-i-test.true) (omega (arith, c.args.collected.now.words, c.loop-i-test.true))

pub returns : goal.returns
returns c = recalled _ _ c.loop-i.invariant c.loop-i-test.false c.byte_in.ensures refl
