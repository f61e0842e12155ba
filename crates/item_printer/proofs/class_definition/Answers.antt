-- `class_definition`: a keyword, a name, parameters, the parent and a block.
use mathlib.Core.Path.{refl}
use native.Mathlib.Omega.{arith}
use Rattle.statement_printer.proofs.FirstLabel.{siblings_within}
use Rattle.statement_printer.proofs.PrintedExpressions.{siblings_at}
use Rattle.item_printer.proofs.PrintedItems.{block_found, block_here, class_here, class_passes}
use Rattle.item_printer.proofs.class_definition.Goals as goal

pub after_parent-first-requires : goal.after_parent-first-requires
after_parent-first-requires c = let o = class_here c.requires in omega (arith, o.first.ends, c.requires.source.short)

pub last_field-body-requires : goal.last_field-body-requires
last_field-body-requires c = let o = class_here c.requires in (omega (arith, c.after_parent-first.ensures, siblings_within o.parameters, o.body.before, c.requires.stands.stands.ends, c.requires.source.short), omega (arith, c.end_of.ensures, c.requires.stands.stands.ends, c.requires.source.short))

pub parameters-given-requires : goal.parameters-given-requires
parameters-given-requires c = let o = class_here c.requires in let all = siblings_at refl c.after_parent-first.ensures refl o.parameters in let found = block_found c.last_field-body.ensures c.end_of.ensures all o.body in (c.requires.source, siblings_at refl refl found all, omega (arith, found, o.body.before, c.requires.stands.stands.ends, c.requires.source.short))

pub overflow_add-p-3 : goal.overflow_add-p-3
overflow_add-p-3 c = record { fits = let o = class_here c.requires in omega (arith, o.first.ends, c.requires.source.short) }

pub parent-above-requires : goal.parent-above-requires
parent-above-requires c = let o = class_here c.requires in (c.requires.source, omega (arith, o.first.ends, c.requires.source.short))

pub in_braces-requires : goal.in_braces-requires
in_braces-requires c = let o = class_here c.requires in let all = siblings_at refl c.after_parent-first.ensures refl o.parameters in (c.requires.source, block_here (block_found c.last_field-body.ensures c.end_of.ensures all o.body) o.body)

pub returns : goal.returns
returns c = let o = class_here c.requires in let all = siblings_at refl c.after_parent-first.ensures refl o.parameters in class_passes _ _ _ _ _ _ o c.after_parent-first.ensures (block_found c.last_field-body.ensures c.end_of.ensures all o.body) c.two_at.ensures c.write_mark-word.ensures c.write_word-name.ensures c.parameters-given.ensures c.parent-above.ensures c.in_braces.ensures
