-- `take_row`: the actions stop, or the row's symbols are put on the stack.
use native.Mathlib.Omega.{arith}
use Rattle.parser.proofs.Taking.{stands_row, row_room, row_stuck, row_onward}
use Rattle.parser.proofs.steps.take_row.Goals as goal

pub do_actions-requires : goal.do_actions-requires
do_actions-requires c = let p = c.requires in record { types = p.0.types; stands = stands_row p.0.types _ _ _ _ _ _ _ _ p.1 (omega arith) p.0.steppable }

pub push-top-requires : goal.push-top-requires
push-top-requires c = let p = c.requires in row_room p.0.types _ _ _ _ _ _ _ _ p.1 p.0.steppable

pub returns : goal.returns
returns c = let d = c.do_actions.ensures in λ types. row_onward types _ _ _ _ _ _ _ _ c.requires.1 _ _ _ _ _ _ c.in-Some.is (d.0 types) d.1 c.push-top.ensures

pub returns-in_default : goal.returns-in_default
returns-in_default c = λ types. row_stuck types _ _ _ _ _ _ _ _ c.requires.1 _ _ _ _ c.in_default.is (c.do_actions.ensures.0 types)
