-- `parameters`: brackets, unless there is none.
use Rattle.item_printer.proofs.PrintedItems.{no_parameters_pass, parameters_pass}
use Rattle.item_printer.proofs.parameters.Goals as goal

pub returns-then-end-first : goal.returns-then-end-first
returns-then-end-first c = no_parameters_pass _ _ c.if-end-first.true

pub returns : goal.returns
returns c = parameters_pass _ _ c.if-end-first.false c.write_mark-open.ensures c.parameters_in_order-all.ensures c.write_mark.ensures
