-- `note_text`: a token after the other, each noted, up to the end or the first one that is refused.
use Prim.Native.Nat.{◌-◌}
use lib.ListN.{length}
use Rattle.type_list.specs.Listed.{chosen}
use Rattle.text_places.proofs.Noting.{Noting}
use Rattle.text_places.proofs.places.note_text.Given as goal

abbrev pub invariant-loop-next : goal.invariant-loop-next
invariant-loop-next l = Noting (chosen l.types) l.text l.initial.out l.initial.frames l.initial.stack l.initial.table l.initial.log l.out l.frames l.stack l.table l.log l.pass l.entries

abbrev pub decreases-loop-next : goal.decreases-loop-next
decreases-loop-next l = length l.text - l.pass.at
