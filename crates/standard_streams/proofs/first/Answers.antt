-- `first`: all bytes, or a part of them.
use mathlib.Core.Path.{sym}
use native.Mathlib.Omega.{arith}
use lib.Seq.{take_all, length-take-le}
use Rattle.standard_streams.proofs.first.Goals as goal

pub returns-then-bytes-n : goal.returns-then-bytes-n
returns-then-bytes-n c = let a = c.args in sym (take_all a.n a.bytes.now c.if-bytes-n.true)

pub slice_bounds-result-end : goal.slice_bounds-result-end
slice_bounds-result-end c = let a = c.args in sym (length-take-le a.n a.bytes.now (omega arith))
