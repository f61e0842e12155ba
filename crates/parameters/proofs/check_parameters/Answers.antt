-- `check_parameters`: one way for each refusal, and one where all is right.
use mathlib.Core.Path.{ap}
use native.Mathlib.Omega.{arith}
use Rattle.catalog.proofs.Entries.{below_at}
use Rattle.parameters.proofs.Checking.{check_unknown, check_missing, check_twice, check_right}
use Rattle.parameters.proofs.check_parameters.Goals as goal
use Rattle.std.specs.Prelude.{Err}

pub at-requires : goal.at-requires
at-requires c = omega (arith, below_at c.find_unknown.ensures.1 c.in-Some.is, c.requires.1.0)

pub returns-in-Some : goal.returns-in-Some
returns-in-Some c = check_unknown _ _ _ _ _ _ c.find_unknown.ensures.0 c.in-Some.is (ap Err c.at.ensures)

pub at-requires-in-Some-find_missing : goal.at-requires-in-Some-find_missing
at-requires-in-Some-find_missing c = omega (arith, below_at c.find_missing.ensures.1 c.in-Some-find_missing.is, c.requires.1.1)

pub returns-in-Some-find_missing : goal.returns-in-Some-find_missing
returns-in-Some-find_missing c = check_missing _ _ _ _ _ _ c.find_unknown.ensures.0 c.in_default.is c.find_missing.ensures.0 c.in-Some-find_missing.is (ap Err c.at-in-Some-find_missing.ensures)

pub at-requires-in-Some-find_repeated : goal.at-requires-in-Some-find_repeated
at-requires-in-Some-find_repeated c = omega (arith, below_at c.find_repeated.ensures.1 c.in-Some-find_repeated.is, c.requires.1.0)

pub returns-in-Some-find_repeated : goal.returns-in-Some-find_repeated
returns-in-Some-find_repeated c = check_twice _ _ _ _ _ _ c.find_unknown.ensures.0 c.in_default.is c.find_missing.ensures.0 c.in_default-find_missing.is c.find_repeated.ensures.0 c.in-Some-find_repeated.is (ap Err c.at-in-Some-find_repeated.ensures)

pub returns : goal.returns
returns c = check_right _ _ _ _ _ _ c.find_unknown.ensures.0 c.in_default.is c.find_missing.ensures.0 c.in_default-find_missing.is c.find_repeated.ensures.0 c.in_default-find_repeated.is
