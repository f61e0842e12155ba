-- `node`: a keyword, the devices' names or `default`, and a block.
use mathlib.Core.Path.{refl}
use native.Mathlib.Omega.{arith}
use Rattle.statement_printer.proofs.PrintedExpressions.{siblings_at}
use Rattle.item_printer.proofs.PrintedItems.{block_found, block_here, default_block, devices_there, node_here, default_node_passes, named_node_passes}
use Rattle.item_printer.proofs.node.Goals as goal

pub in_braces-requires : goal.in_braces-requires
in_braces-requires c = let o = node_here c.requires in (c.requires.source, block_here (default_block o c.byte_at.ensures c.end_of.ensures c.if-byte_at-eq27.true) o.body)

pub returns-then-byte_at-eq27 : goal.returns-then-byte_at-eq27
returns-then-byte_at-eq27 c = let o = node_here c.requires in default_node_passes _ _ _ _ _ o (default_block o c.byte_at.ensures c.end_of.ensures c.if-byte_at-eq27.true) c.byte_at.ensures c.write_mark-word.ensures c.in_braces.ensures c.if-byte_at-eq27.true c.write_mark-every.ensures

pub devices-names-requires : goal.devices-names-requires
devices-names-requires c = let o = node_here c.requires in let names = devices_there o c.byte_at.ensures c.if-byte_at-eq27.false in let found = block_found c.last_field-body.ensures c.end_of-2.ensures names o.body in (c.requires.source, siblings_at refl refl found names, omega (arith, found, o.body.before, c.requires.stands.stands.ends, c.requires.source.short))

pub in_braces-requires-2 : goal.in_braces-requires-2
in_braces-requires-2 c = let o = node_here c.requires in let names = devices_there o c.byte_at.ensures c.if-byte_at-eq27.false in (c.requires.source, block_here (block_found c.last_field-body.ensures c.end_of-2.ensures names o.body) o.body)

pub returns : goal.returns
returns c = let o = node_here c.requires in let names = devices_there o c.byte_at.ensures c.if-byte_at-eq27.false in named_node_passes _ _ _ _ _ o (block_found c.last_field-body.ensures c.end_of-2.ensures names o.body) c.byte_at.ensures c.write_mark-word.ensures c.in_braces-2.ensures c.if-byte_at-eq27.false c.devices-names.ensures
