-- `room_in`: by computing.
use native.Mathlib.Omega.{arith}
use Rattle.rules.specs.Compile.{room_in}
use Rattle.execution.proofs.room_in.Goals as goal

pub returns-then-length-le65535 : goal.returns-then-length-le65535
unfolding room_in
returns-then-length-le65535 c = omega arith

pub returns-else-length-le65535 : goal.returns-else-length-le65535
unfolding room_in
returns-else-length-le65535 c = omega arith
