-- `write_manifest`: the table, and then the second pass into the part behind it.
use native.Mathlib.Omega.{arith}
use borrow.Author.Rules.{rules}
use Rattle.converter.proofs.Converting.{writable, items_fit, passable}
use Rattle.converter.proofs.TwoPasses.{manifest_begins}
use Rattle.converter.proofs.write_manifest.Goals as goal

pub write_table-requires : goal.write_table-requires
write_table-requires c = writable _ c.requires.1

pub slice_bounds-read_pass-count : goal.slice_bounds-read_pass-count
slice_bounds-read_pass-count c = omega (arith, items_fit _ c.requires.1)

pub slice_bounds-read_pass-start : goal.slice_bounds-read_pass-start
slice_bounds-read_pass-start c = omega (arith, items_fit _ c.requires.1)

pub read_pass-requires : goal.read_pass-requires
read_pass-requires c = (c.requires.0, passable _ c.requires.1 _)

pub returns : goal.returns
returns c =
    manifest_begins _ c.requires.1 _ _ _ _ c.write_table.ensures.1 c.read_pass.ensures (search rules) (search rules)
