-- `assign_parameters`: refused at a default that is struck out, or else stored.
use Rattle.patterns.proofs.Struck.{near_at}
use Rattle.parameters.proofs.Defaults.{assign_struck, assign_stored}
use Rattle.parameters.proofs.assign_parameters.Goals as goal

pub at-requires : goal.at-requires
at-requires c = near_at c.in-Some.is c.struck_default.ensures.1

pub returns-in-Some : goal.returns-in-Some
returns-in-Some c = assign_struck _ _ _ _ _ _ c.requires.1.1 c.struck_default.ensures.0 c.in-Some.is c.at.ensures

pub returns : goal.returns
returns c = assign_stored _ _ _ _ _ _ c.requires.1.1 c.struck_default.ensures.0 c.in_default.is c.store_parameters.ensures
