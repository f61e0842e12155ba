-- `first_unprintable`: what the fields from here on give is what they all give.
use Prim.Native.Nat.{◌-◌}
use mathlib.Core.Path.{◌≡◌}
use lib.ListN.{length}
use Rattle.syntax.specs.Strings.{string_texts}
use Rattle.type_list.specs.Listed.{chosen}
use Rattle.printable.specs.Reading.{gone_from}
use Rattle.printable.proofs.first_unprintable.Given as goal

abbrev pub invariant-loop-p : goal.invariant-loop-p
invariant-loop-p l = gone_from (chosen l.types.list.now) l.m.bytes.now (string_texts l.m.bytes.now) l.p l.last ≡ gone_from (chosen l.types.list.now) l.m.bytes.now (string_texts l.m.bytes.now) l.initial.p 0

abbrev pub decreases-loop-p : goal.decreases-loop-p
decreases-loop-p l = length l.m.bytes.now - l.p
