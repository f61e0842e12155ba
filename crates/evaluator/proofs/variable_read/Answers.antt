-- `variable_read`: no such class, or the variable sought.
use Rattle.labels.proofs.Words.{grows_none}
use Rattle.evaluator.proofs.Leaves.{told_joined}
use Rattle.evaluator.proofs.Reading.{sought_unknown, sought_read}
use mathlib.Core.Path.{◌≡◌}
use native.Mathlib.Omega.{arith}
use Rattle.std.specs.Prelude.{Some, None, Err}
use Rattle.evaluator.proofs.variable_read.Goals as goal

pub read_up-requires : goal.read_up-requires
read_up-requires c = c.requires

pub returns-in_err-variable : goal.returns-in_err-variable
returns-in_err-variable c =
    let unknown : c.variable_at.result ≡ None = grind arith in
    let handed_on : c.from_residual.result ≡ Err c.at.result = grind arith in
    (grows_none (omega arith), λ out fill d s low high. told_joined _ _ _ _ _ _ _ _ (sought_unknown _ _ _ _ unknown handed_on c.at.ensures) (c.variable_at.ensures out fill d s low high))

pub returns : goal.returns
returns c =
    let found : c.variable_at.result ≡ Some c.in_ok-variable.variable = grind arith in
    (c.read_up.ensures.grows, λ out fill d s low high. told_joined _ _ _ _ _ _ _ _ (sought_read _ _ _ _ _ found c.read_up.ensures.says) (c.variable_at.ensures out fill d s low high))
