-- `enter`: a limit, or one bracket more.
use Rattle.tree_builder.proofs.Rounds.{enter_refused, enter_made}
use native.Mathlib.Omega.{arith}
use Rattle.tree_builder.proofs.enter.Goals as goal

pub returns-then-s-ge32 : goal.returns-then-s-ge32
returns-then-s-ge32 c = λ m out types. enter_refused types c.args.s m out (omega (arith, c.if-s-ge32.true))

pub returns : goal.returns
returns c = λ m out types. enter_made types c.args.s m out (omega arith)
