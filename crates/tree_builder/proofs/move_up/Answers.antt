-- `move_up`: what stands from a place on is moved, at each turn one byte more.
use mathlib.Core.Path.{ap, ◌∙◌}
use Prim.Native.Nat.{◌+◌, ◌-◌}
use native.Mathlib.Omega.{arith}
use lib.ListN.{length}
use Rattle.wire.specs.Runs.{bytes_at}
use Rattle.wire.proofs.Laws.{over_length}
use Rattle.tree_builder.proofs.Moving.{move_none, move_again, move_done}
use Rattle.tree_builder.proofs.move_up.Goals as goal

pub loop-p-init : goal.loop-p-init
loop-p-init c = let a = c.args in (omega arith, omega arith, move_none a.out.now a.to a.by)

pub loop-p-preserved : goal.loop-p-preserved
loop-p-preserved c =
    let a = c.args in
    let l = c.loop-p in (
      omega arith,
      omega arith,
      move_again a.out.now l.p a.to a.by c.byte_at-b.result (omega arith) (omega arith) l.invariant.2 c.byte_at-b.ensures (omega arith) c.put_byte.ensures,
    )

pub shape_of-out : goal.shape_of-out
shape_of-out c =
    let a = c.args in
    ap length c.loop-p.invariant.2 ∙ over_length a.out.now (c.loop-p.p + a.by) (bytes_at a.out.now c.loop-p.p (a.to - c.loop-p.p))

pub returns : goal.returns
returns c =
    let a = c.args in
    move_done a.out.now c.loop-p.p a.from a.to a.by (omega arith) (omega arith) c.loop-p.invariant.2
