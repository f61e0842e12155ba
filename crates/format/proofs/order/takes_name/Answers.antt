-- `takes_name`: a device, a default, or neither.
use native.Mathlib.Omega.{arith}
use Rattle.format.proofs.Steps.{device_taken, default_taken, name_refused}
use Rattle.format.proofs.order.takes_name.Goals as goal

pub returns-in-49 : goal.returns-in-49
returns-in-49 c = device_taken _ _ (omega arith) c.requires c.in-49.is

pub returns-in-27 : goal.returns-in-27
returns-in-27 c = default_taken _ _ (omega arith) c.requires c.in-27.is

pub returns-in_default : goal.returns-in_default
returns-in_default c = name_refused _ _ (omega arith) c.requires (λ e. absurd (omega arith)) (λ e. absurd (omega arith))
