-- `leave`: a limit, or one bracket less.
use Rattle.tree_builder.proofs.Rounds.{leave_refused, leave_made}
use native.Mathlib.Omega.{arith}
use Rattle.tree_builder.proofs.leave.Goals as goal

pub returns-then-s-eq0 : goal.returns-then-s-eq0
returns-then-s-eq0 c = λ m out types. leave_refused types c.args.s m out (omega (arith, c.if-s-eq0.true))

pub returns : goal.returns
returns c = λ m out types. leave_made types c.args.s m out (omega arith)
