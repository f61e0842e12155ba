-- `mark_built_ins`: at the loop's head the strings before are marked, and those left make the whole.
use Rattle.std.specs.Iterator.Adapters.{enumerate_source, enumerate_count}
use Rattle.wire.specs.Bytes.{fields_in}
use Rattle.wire.proofs.Walks.{left}
use Rattle.type_list.specs.Listed.{chosen}
use Rattle.definitions.proofs.Marking.{MarkedTo}
use Rattle.definitions.proofs.mark_built_ins.Given as goal

abbrev pub invariant-loop-n : goal.invariant-loop-n
invariant-loop-n l = MarkedTo (chosen l.types) l.m l.initial.work l.work (fields_in l.m 3 l.end) (enumerate_count l.n-iterator) (left (enumerate_source l.n-iterator))
