-- `join`: a word at a time.
use native.Mathlib.Omega.{arith}
use mathlib.Core.Path.{refl}
use Rattle.branches.proofs.Joining.{joining, joined_word}
use Rattle.branches.proofs.Texts.{collects_words}
use Rattle.branches.proofs.collected.Collected.join.Goals as goal

pub loop-i-init : goal.loop-i-init
loop-i-init c = joining _ _

pub loop-i-preserved : goal.loop-i-preserved
loop-i-preserved c = joined_word c.loop-i.invariant refl (omega (arith, c.args.self.now.words))

pub returns : goal.returns
returns c = collects_words c.args.self.now c.loop-i.invariant (omega (arith, c.args.more.now.words)) refl refl
