-- `takes_struck`: nothing given, a default, and that struck out.
use mathlib.Core.Path.{◌≡◌}
use mathlib.Core.Bool.{true, false≢true}
use Rattle.std.specs.Prelude.{None, is_some}
use native.Mathlib.Omega.{arith}
use Rattle.parameters.proofs.Defaults.{takes_given, takes_none, takes_default}
use Rattle.parameters.proofs.takes_struck.Goals as goal

pub returns-then-is_some : goal.returns-then-is_some
returns-then-is_some c = (takes_given _ _ _ _ c.two_at.ensures c.given.ensures (let there : is_some c.given.result ≡ true = grind arith in there), λ e. absurd (false≢true e))

pub returns-then-end_of-q : goal.returns-then-end_of-q
returns-then-end_of-q c = (takes_none _ _ _ _ c.two_at.ensures c.given.ensures (let nothing : c.given.result ≡ None = grind arith in nothing) c.end_of.ensures c.if-end_of-q.true, λ e. absurd (false≢true e))

pub returns : goal.returns
returns c = (takes_default _ _ _ _ c.two_at.ensures c.given.ensures (let nothing : c.given.result ≡ None = grind arith in nothing) c.end_of.ensures (omega (arith, c.if-end_of-q.false)) c.byte_at.ensures c.is_struck_out.ensures.0, c.is_struck_out.ensures.1)
