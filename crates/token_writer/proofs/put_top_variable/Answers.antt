-- `put_top_variable`: white space, the sign, then the name.
use native.Mathlib.Omega.{arith}
use Rattle.notation.specs.Layout.{spelling}
use Rattle.notation.specs.Tokens.{top_variable}
use Rattle.token_writer.proofs.Writing.{wrote_join}
use Rattle.token_writer.proofs.WhiteSpace.{after_gap}
use Rattle.token_writer.proofs.Chains.{put_token}
use Rattle.token_writer.proofs.put_top_variable.Goals as goal

pub put_bytes-sign-requires : goal.put_bytes-sign-requires
put_bytes-sign-requires c =
    omega (arith, after_gap c.args.pen 4 c.args.line c.requires.0 c.ranges.line.fits c.put_gap-at.ensures)

pub put_bytes-end-requires : goal.put_bytes-end-requires
put_bytes-end-requires c =
    omega (arith, after_gap c.args.pen 4 c.args.line c.requires.0 c.ranges.line.fits c.put_gap-at.ensures, c.put_bytes-sign.ensures.filled, c.requires.1)

pub returns : goal.returns
unfolding spelling
returns c =
    put_token (top_variable _) c.put_gap-at.ensures (wrote_join c.put_bytes-sign.ensures c.put_bytes-end.ensures) c.pen_behind.ensures
