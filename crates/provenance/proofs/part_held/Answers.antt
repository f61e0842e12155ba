-- `part_held`: one test after the other.
use Rattle.provenance.proofs.Parts.{held_in_title, held_in_path, held_in_trail, held_in_marks, held_in_value, held_nowhere}
use Rattle.provenance.proofs.part_held.Goals as goal

pub returns-then-contains : goal.returns-then-contains
returns-then-contains c = held_in_title _ _ _ _ _ _ c.contains.ensures c.if-contains.true c.part_number.ensures

pub returns-then-contains-2 : goal.returns-then-contains-2
returns-then-contains-2 c = held_in_path _ _ _ _ _ _ c.contains.ensures c.if-contains.false c.contains-2.ensures c.if-contains-2.true c.part_number-then-contains-2.ensures

pub returns-then-contains-3 : goal.returns-then-contains-3
returns-then-contains-3 c = held_in_trail _ _ _ _ _ _ c.contains.ensures c.if-contains.false c.contains-2.ensures c.if-contains-2.false c.contains-3.ensures c.if-contains-3.true c.part_number-then-contains-3.ensures

pub returns-then-contains-4 : goal.returns-then-contains-4
returns-then-contains-4 c = held_in_marks _ _ _ _ _ _ c.contains.ensures c.if-contains.false c.contains-2.ensures c.if-contains-2.false c.contains-3.ensures c.if-contains-3.false c.contains-4.ensures c.if-contains-4.true c.part_number-then-contains-4.ensures

pub returns-then-contains-5 : goal.returns-then-contains-5
returns-then-contains-5 c = held_in_value _ _ _ _ _ _ c.contains.ensures c.if-contains.false c.contains-2.ensures c.if-contains-2.false c.contains-3.ensures c.if-contains-3.false c.contains-4.ensures c.if-contains-4.false c.contains-5.ensures c.if-contains-5.true c.part_number-then-contains-5.ensures

pub returns : goal.returns
returns c = held_nowhere _ _ _ _ _ _ c.contains.ensures c.if-contains.false c.contains-2.ensures c.if-contains-2.false c.contains-3.ensures c.if-contains-3.false c.contains-4.ensures c.if-contains-4.false c.contains-5.ensures c.if-contains-5.false
