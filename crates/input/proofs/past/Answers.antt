-- `past`: a part of the bytes, or nothing past their end.
use mathlib.Core.Path.{sym}
use Prim.Native.Nat.{◌-◌}
use native.Mathlib.Omega.{arith}
use lib.ListN.{length, drop, drop_of_length-le, length-drop}
use lib.Seq.{take_all}
use Rattle.input.proofs.past.Goals as goal

pub returns-then-bytes-count : goal.returns-then-bytes-count
returns-then-bytes-count c = let a = c.args in sym (drop_of_length-le a.bytes.now {i = a.count} (omega arith))

pub returns : goal.returns
returns c = let a = c.args in take_all (length a.bytes.now - a.count) (drop a.count a.bytes.now) (omega (arith, length-drop a.count a.bytes.now))
