-- `enter_both`: the class or the name passes the limit, or both are entered.
use native.Mathlib.Omega.{arith}
use Rattle.parser.proofs.Entering.{class_crowds, name_crowds, both_entered}
use Rattle.parser.proofs.strings.enter_both.Goals as goal

pub returns-then-first-gt1024 : goal.returns-then-first-gt1024
returns-then-first-gt1024 c = class_crowds _ _ _ c.requires.0 _ _ _ _ _ c.enter-first.ensures (omega arith)

pub returns-then-second-gt1024 : goal.returns-then-second-gt1024
returns-then-second-gt1024 c = name_crowds _ _ _ c.requires.0 _ _ _ _ _ c.enter-first.ensures _ _ _ c.enter-second.ensures (omega arith) (omega arith)

pub returns : goal.returns
returns c = both_entered _ _ _ c.requires.0 _ _ _ _ _ c.enter-first.ensures _ _ _ c.enter-second.ensures (omega arith) _ _ _ c.enter-class.ensures (omega arith)
