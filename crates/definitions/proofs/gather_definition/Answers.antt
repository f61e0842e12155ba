-- `gather_definition`: the name is taken, or its definition becomes known.
use Rattle.definitions.proofs.Gathering.{defined_again, defined_now}
use Rattle.definitions.proofs.gather_definition.Goals as goal

pub returns-then-is_taken : goal.returns-then-is_taken
returns-then-is_taken c = defined_again c.requires.0 c.requires.1.0 c.requires.1.1 c.is_taken.ensures _ c.at.ensures c.if-is_taken.true

pub returns : goal.returns
returns c = defined_now c.requires.0 c.requires.1.0 c.requires.1.1 c.is_taken.ensures c.if-is_taken.false c.define.ensures
