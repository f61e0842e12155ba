-- `put_mark`: white space, then the spelling.
use mathlib.Core.Path.{ap}
use native.Mathlib.Omega.{arith}
use lib.ListN.{length}
use Rattle.notation.specs.Layout.{spelling}
use Rattle.notation.specs.Tokens.{mark}
use Rattle.token_writer.proofs.Writing.{wrote_is}
use Rattle.token_writer.proofs.WhiteSpace.{after_gap}
use Rattle.token_writer.proofs.Lengths.{mark_short}
use Rattle.token_writer.proofs.Chains.{put_token}
use Rattle.token_writer.proofs.put_mark.Goals as goal

pub put_bytes-end-requires : goal.put_bytes-end-requires
put_bytes-end-requires c = omega (arith, after_gap c.args.pen c.args.kind c.args.line c.requires.0 c.ranges.line.fits c.put_gap-at.ensures, mark_short c.args.kind, ap length c.spelling.ensures)

pub returns : goal.returns
unfolding spelling
returns c = put_token (mark _) c.put_gap-at.ensures (wrote_is c.spelling.ensures c.put_bytes-end.ensures) c.pen_behind.ensures
