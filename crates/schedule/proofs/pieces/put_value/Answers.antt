-- `put_value`: by the kind of the value. A signed number that a variant holds is the one that was put there.
use mathlib.Core.Path.{ap}
use borrow.Author.Rules.{rules}
use mir.Syntax.{w64}
use mir.Val.{SFits}
use mir.ValLaws.{to_z-of_z}
use Rattle.rules.specs.Schedule.{signed_decimal, value_text}
use Rattle.schedule.proofs.Appending.{piece_is}
use Rattle.schedule.proofs.pieces.put_value.Goals as goal

pub returns-in-Integer : goal.returns-in-Integer
unfolding value_text
returns-in-Integer c =
    let fits : SFits w64 c.in-Integer.z = search rules in
    rw c.in-Integer.is (piece_is _ _ (ap signed_decimal (to_z-of_z w64 _ fits)) c.put_integer.ensures)

pub returns-in-String : goal.returns-in-String
unfolding value_text
returns-in-String c = rw c.in-String.is (piece_is _ _ c.get.ensures c.put_text.ensures)

pub returns-in-Boolean : goal.returns-in-Boolean
unfolding value_text
returns-in-Boolean c = rw c.in-Boolean.is c.put_boolean.ensures
