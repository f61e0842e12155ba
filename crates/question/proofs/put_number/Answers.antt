-- `put_number`: the digits are made in a buffer of their own, which is long enough.
use mathlib.Core.Path.{refl, ap}
use native.Mathlib.Omega.{arith}
use lib.ListN.{length}
use Rattle.question.proofs.Putting.{number_ready, number_short, put_is}
use Rattle.question.proofs.put_number.Goals as goal

pub slice_bounds-digits-end : goal.slice_bounds-digits-end
slice_bounds-digits-end c = (number_ready _ _ (omega (arith, c.ranges.n.fits)) refl c.put_unsigned-count.ensures).within

pub slice_bounds-put_text-end : goal.slice_bounds-put_text-end
slice_bounds-put_text-end c = (number_ready _ _ (omega (arith, c.ranges.n.fits)) refl c.put_unsigned-count.ensures).whole

pub put_text-requires : goal.put_text-requires
put_text-requires c =
    (c.requires, omega (arith, ap length (number_ready _ _ (omega (arith, c.ranges.n.fits)) refl c.put_unsigned-count.ensures).is, number_short c.args.n (omega (arith, c.ranges.n.fits))))

pub returns : goal.returns
returns c = put_is (number_ready _ _ (omega (arith, c.ranges.n.fits)) refl c.put_unsigned-count.ensures).is c.put_text.ensures
