-- `put_text`: white space, then the string between its quotes.
use native.Mathlib.Omega.{arith}
use Rattle.notation.specs.Layout.{spelling}
use Rattle.notation.specs.Tokens.{text}
use Rattle.token_writer.proofs.Writing.{wrote_join}
use Rattle.token_writer.proofs.WhiteSpace.{after_gap}
use Rattle.token_writer.proofs.Strings.{escaped_short}
use Rattle.token_writer.proofs.Chains.{put_token}
use Rattle.token_writer.proofs.put_text.Goals as goal

pub put_bytes-quote-requires : goal.put_bytes-quote-requires
put_bytes-quote-requires c =
    omega (arith, after_gap c.args.pen 2 c.args.line c.requires.0 c.ranges.line.fits c.put_gap-at.ensures)

pub put_quoted-content-requires : goal.put_quoted-content-requires
put_quoted-content-requires c =
    (omega (arith, after_gap c.args.pen 2 c.args.line c.requires.0 c.ranges.line.fits c.put_gap-at.ensures, c.put_bytes-quote.ensures.filled), c.requires.1)

pub put_bytes-end-requires : goal.put_bytes-end-requires
put_bytes-end-requires c =
    omega (arith, after_gap c.args.pen 2 c.args.line c.requires.0 c.ranges.line.fits c.put_gap-at.ensures, c.put_bytes-quote.ensures.filled, c.put_quoted-content.ensures.filled, escaped_short c.args.string.now, c.requires.1)

pub returns : goal.returns
unfolding spelling
returns c =
    put_token (text _) c.put_gap-at.ensures (wrote_join c.put_bytes-quote.ensures (wrote_join c.put_quoted-content.ensures c.put_bytes-end.ensures)) c.pen_behind.ensures
