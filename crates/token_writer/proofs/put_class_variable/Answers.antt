-- `put_class_variable`: white space, the sign, the class, the colons, then the name.
use native.Mathlib.Omega.{arith}
use Rattle.notation.specs.Layout.{spelling}
use Rattle.notation.specs.Tokens.{class_variable}
use Rattle.token_writer.proofs.Writing.{wrote_join}
use Rattle.token_writer.proofs.WhiteSpace.{after_gap}
use Rattle.token_writer.proofs.Chains.{put_token}
use Rattle.token_writer.proofs.put_class_variable.Goals as goal

pub put_bytes-sign-requires : goal.put_bytes-sign-requires
put_bytes-sign-requires c =
    omega (arith, after_gap c.args.pen 4 c.args.line c.requires.0 c.ranges.line.fits c.put_gap-at.ensures)

pub put_bytes-whose-requires : goal.put_bytes-whose-requires
put_bytes-whose-requires c =
    omega (arith, after_gap c.args.pen 4 c.args.line c.requires.0 c.ranges.line.fits c.put_gap-at.ensures, c.put_bytes-sign.ensures.filled, c.requires.1)

pub put_bytes-colons-requires : goal.put_bytes-colons-requires
put_bytes-colons-requires c =
    omega (arith, after_gap c.args.pen 4 c.args.line c.requires.0 c.ranges.line.fits c.put_gap-at.ensures, c.put_bytes-sign.ensures.filled, c.put_bytes-whose.ensures.filled, c.requires.1)

pub put_bytes-end-requires : goal.put_bytes-end-requires
put_bytes-end-requires c =
    omega (arith, after_gap c.args.pen 4 c.args.line c.requires.0 c.ranges.line.fits c.put_gap-at.ensures, c.put_bytes-sign.ensures.filled, c.put_bytes-whose.ensures.filled, c.put_bytes-colons.ensures.filled, c.requires.1, c.requires.2)

pub returns : goal.returns
unfolding spelling
returns c =
    put_token (class_variable _ _) c.put_gap-at.ensures (wrote_join c.put_bytes-sign.ensures (wrote_join c.put_bytes-whose.ensures (wrote_join c.put_bytes-colons.ensures c.put_bytes-end.ensures))) c.pen_behind.ensures
