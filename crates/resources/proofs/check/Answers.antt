-- `check`: one way for each refusal, and one for the entry.
use mathlib.Core.Path.{refl, ap}
use mathlib.Core.Bool.{true}
use native.Mathlib.Omega.{arith}
use Rattle.catalog.proofs.Entries.{below_at}
use Rattle.resources.proofs.Checking.{check_again, check_twice, check_rest}
use Rattle.resources.proofs.check.Goals as goal
use Rattle.std.specs.Prelude.{Err}

pub returns-then-has_entry : goal.returns-then-has_entry
returns-then-has_entry c = check_again _ _ _ _ _ _ _ _ _ true _ _ refl c.two_at-kind.ensures c.has_entry.ensures c.if-has_entry.true (ap Err c.at.ensures)

pub at-requires-in-Some : goal.at-requires-in-Some
at-requires-in-Some c = omega (arith, below_at c.find_repeated.ensures.1 c.in-Some.is, c.requires.1.1.1.1.1.1.1)

pub returns-in-Some : goal.returns-in-Some
returns-in-Some c = check_twice _ _ _ _ _ _ _ _ _ true _ _ refl c.two_at-kind.ensures c.has_entry.ensures c.if-has_entry.false c.find_repeated.ensures.0 c.in-Some.is (ap Err c.at-in-Some.ensures)

pub returns : goal.returns
returns c = check_rest _ _ _ _ _ _ _ _ _ true _ _ refl c.two_at-kind.ensures c.has_entry.ensures c.if-has_entry.false c.find_repeated.ensures.0 c.in_default.is c.finish.ensures.0 c.finish.ensures.1.0 c.finish.ensures.1.1
