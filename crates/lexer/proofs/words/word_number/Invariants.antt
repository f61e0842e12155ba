-- `word_number`: from the last byte to the first.
use Prim.Native.Nat.{◌-◌, ◌^◌, ◌≤◌, ◌<◌}
use mathlib.Core.Path.{◌≡◌}
use lib.Seq.{slice}
use Rattle.lexer.specs.Words.{little}
use Rattle.lexer.proofs.words.word_number.Given as goal

-- k: how many more bytes there is room for
abbrev pub invariant-loop-i : goal.invariant-loop-i
invariant-loop-i l = (l.start ≤ l.i) × (l.i ≤ l.end) × (l.n < 256 ^ (8 - (8 - (l.end - l.i)))) × (l.n ≡ little (slice l.i l.end l.text))

abbrev pub decreases-loop-i : goal.decreases-loop-i
decreases-loop-i l = l.i
