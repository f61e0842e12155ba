-- `put_quoted`: at the loop's head the bytes up to the index are written.
use native.Mathlib.Omega.{arith}
use Rattle.notation.specs.Layout.{escaped_all}
use Rattle.token_writer.proofs.Writing.{wrote_is, wrote_join, wrote_none, wrote_length}
use Rattle.token_writer.proofs.Strings.{escaped_next, escaped_end, escaped_all_lem}
use Rattle.token_writer.proofs.pieces.put_quoted.Goals as goal

pub loop-byte-init : goal.loop-byte-init
unfolding escaped_all
loop-byte-init c = (omega arith, wrote_none _ _)

pub put_escaped-end-requires : goal.put_escaped-end-requires
put_escaped-end-requires c = let l = c.loop-byte in omega (arith, escaped_end l.byte-index c.args.string.now l.invariant.0 l.invariant.1, l.invariant.0, c.requires)

pub loop-byte-preserved : goal.loop-byte-preserved
loop-byte-preserved c =
    let l = c.loop-byte in
    (omega arith, wrote_is (escaped_next c.args.string.now l.byte-index (omega arith)) (wrote_join l.invariant.1 c.put_escaped-end.ensures))

pub shape_of-out : goal.shape_of-out
shape_of-out c = wrote_length c.loop-byte.invariant.1

pub returns : goal.returns
returns c = escaped_all_lem c.loop-byte.byte-index c.args.string.now c.loop-byte-test.false c.loop-byte.invariant.1
