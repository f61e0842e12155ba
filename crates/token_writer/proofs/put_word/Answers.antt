-- `put_word`: white space, then the name.
use native.Mathlib.Omega.{arith}
use Rattle.notation.specs.Layout.{spelling}
use Rattle.notation.specs.Tokens.{word}
use Rattle.token_writer.proofs.WhiteSpace.{after_gap}
use Rattle.token_writer.proofs.Chains.{put_token}
use Rattle.token_writer.proofs.put_word.Goals as goal

pub put_bytes-end-requires : goal.put_bytes-end-requires
put_bytes-end-requires c =
    omega (arith, after_gap c.args.pen 0 c.args.line c.requires.0 c.ranges.line.fits c.put_gap-at.ensures, c.requires.1)

pub returns : goal.returns
unfolding spelling
returns c = put_token (word _) c.put_gap-at.ensures c.put_bytes-end.ensures c.pen_behind.ensures
