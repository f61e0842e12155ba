-- `string_size`: the bytes passed and those left make the whole string.
use Prim.Native.Nat.{◌+◌, ◌-◌, ◌≤◌}
use mathlib.Core.Path.{◌≡◌}
use lib.ListN.{length}
use Rattle.notation.specs.Quoted.{string_from}
use Rattle.interner.specs.Strings.{rest_of}
use Rattle.interner.proofs.fields.string_size.Given as goal

abbrev pub invariant-loop-first : goal.invariant-loop-first
invariant-loop-first l = (l.size + length (rest_of l.text l.first.quote l.p) ≡ length (string_from l.text l.at)) × (l.size ≤ l.p) × (l.size ≤ length l.text)

abbrev pub decreases-loop-first : goal.decreases-loop-first
decreases-loop-first l = length l.text - l.p
