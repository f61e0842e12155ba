-- `up_to`: only the tightest level changes.
use native.Mathlib.Omega.{arith}
use Rattle.parse_table.proofs.Packed.{code_up_to}
use Rattle.parse_table.proofs.expressions.up_to.Goals as goal

pub returns : goal.returns
returns c = (code_up_to c.args.symbol c.args.level c.requires.0 c.requires.1, omega arith, omega arith)
