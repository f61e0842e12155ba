-- `two_in`: two bytes that are there.
use native.Mathlib.Omega.{arith}
use Rattle.wire.specs.Bytes.{two}
use Rattle.wire.proofs.two_in.Goals as goal

pub returns : goal.returns
unfolding two
returns c = omega arith
