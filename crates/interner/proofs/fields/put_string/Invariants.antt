-- `put_string`: what is left of the string, put where the loop is, makes the whole.
use Prim.Native.Nat.{◌+◌, ◌-◌}
use mathlib.Core.Path.{◌≡◌}
use lib.ListN.{length}
use Rattle.wire.specs.Runs.{over}
use Rattle.notation.specs.Quoted.{string_from}
use Rattle.interner.specs.Strings.{rest_of}
use Rattle.interner.proofs.fields.put_string.Given as goal

abbrev pub invariant-loop-first : goal.invariant-loop-first
invariant-loop-first l = (over l.out l.end (rest_of l.text l.first.quote l.p) ≡ over l.initial.out l.at (string_from l.text l.from)) × (l.end + length (rest_of l.text l.first.quote l.p) ≡ l.at + length (string_from l.text l.from))

abbrev pub decreases-loop-first : goal.decreases-loop-first
decreases-loop-first l = length l.text - l.p
