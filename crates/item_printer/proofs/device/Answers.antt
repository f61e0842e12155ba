-- `device`: a comma if one is wanted, and the name in quotes.
use Rattle.item_printer.proofs.PrintedItems.{device_passes}
use Rattle.item_printer.proofs.device.Goals as goal

pub returns : goal.returns
returns c = device_passes _ _ c.two_at.ensures c.separate-begun.ensures c.write_text.ensures
