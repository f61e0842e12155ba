-- `parameter`: a comma if one is wanted, the name, and the default if there is one.
use native.Mathlib.Omega.{arith}
use Rattle.item_printer.proofs.PrintedItems.{plain_parameter_passes, given_parameter_passes}
use Rattle.item_printer.proofs.parameter.Goals as goal

pub returns-then-end-q : goal.returns-then-end-q
returns-then-end-q c = plain_parameter_passes _ _ _ _ c.requires.1 c.two_at.ensures c.end_of-end.ensures c.first_label-line.ensures c.separate-begun.ensures c.write_variable-name.ensures c.if-end-q.true

pub write_constant-requires : goal.write_constant-requires
write_constant-requires c = (c.requires.0, omega (arith, c.requires.1.stands.ends, c.requires.0.short, c.if-end-q.false, c.end_of-end.ensures))

pub returns : goal.returns
returns c = given_parameter_passes _ _ _ _ c.requires.1 c.two_at.ensures c.end_of-end.ensures c.first_label-line.ensures c.separate-begun.ensures c.write_variable-name.ensures c.if-end-q.false c.write_mark-sign.ensures c.write_constant.ensures
