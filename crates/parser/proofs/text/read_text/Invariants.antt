-- `read_text`: a token after the other, up to the end or the first one that is refused.
use Prim.Native.Nat.{◌-◌}
use lib.ListN.{length}
use Rattle.type_list.specs.Listed.{chosen}
use Rattle.interner.specs.Table.{strings}
use Rattle.parser.proofs.TextRead.{Along}
use Rattle.parser.proofs.text.read_text.Given as goal

abbrev pub invariant-loop-next : goal.invariant-loop-next
invariant-loop-next l = Along (chosen l.types) l.text (strings l.text l.initial.table l.count) l.initial.out l.initial.frames l.initial.stack l.initial.table l.out l.frames l.stack l.table l.pass

abbrev pub decreases-loop-next : goal.decreases-loop-next
decreases-loop-next l = length l.text - l.pass.at
