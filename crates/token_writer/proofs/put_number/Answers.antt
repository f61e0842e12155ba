-- `put_number`: white space, then the digits.
use mathlib.Core.Path.{ap}
use native.Mathlib.Omega.{arith}
use mir.Syntax.{w64}
use mir.ValLaws.{to_z-of_z}
use Rattle.values.specs.Decimal.{signed_decimal}
use Rattle.notation.specs.Layout.{spelling}
use Rattle.notation.specs.Tokens.{number}
use Rattle.token_writer.proofs.Writing.{wrote_is}
use Rattle.token_writer.proofs.WhiteSpace.{after_gap}
use Rattle.token_writer.proofs.Chains.{put_token}
use Rattle.token_writer.proofs.put_number.Goals as goal

pub put_integer-end-requires : goal.put_integer-end-requires
put_integer-end-requires c =
    omega (arith, after_gap c.args.pen 1 c.args.line c.requires c.ranges.line.fits c.put_gap-at.ensures)

pub returns : goal.returns
unfolding spelling
returns c = put_token (number _) c.put_gap-at.ensures (wrote_is (ap signed_decimal (to_z-of_z w64 _ c.ranges.value)) c.put_integer-end.ensures) c.pen_behind.ensures
