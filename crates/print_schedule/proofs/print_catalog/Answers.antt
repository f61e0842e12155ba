-- `print_catalog`: by the index of the strings, the lines of the catalog and the last one are the whole text.
use lib.Dec.{lit≤}
use Rattle.print_schedule.proofs.Printing.{catalog_left_lem}
use Rattle.print_schedule.proofs.print_catalog.Goals as goal

pub print_lines-requires : goal.print_lines-requires
print_lines-requires g c =
    let index = c.index_strings-strings.ensures in
    rw (c.requires.1, index.0, index.1) (catalog_left_lem c.args.manifest.now c.args.device.now c.requires.0 _ (lit≤ tt))
