-- `put_number`: the digits are made in a buffer of their own, which is long enough.
use mathlib.Core.Path.{refl}
use Rattle.schedule.proofs.Appending.{number_ready, piece_is}
use Rattle.schedule.proofs.pieces.put_number.Goals as goal

pub slice_bounds-digits-end : goal.slice_bounds-digits-end
slice_bounds-digits-end c = (number_ready _ _ c.ranges.n.fits refl c.put_unsigned-count.ensures).within

pub slice_bounds-put_text-end : goal.slice_bounds-put_text-end
slice_bounds-put_text-end c = (number_ready _ _ c.ranges.n.fits refl c.put_unsigned-count.ensures).whole

pub returns : goal.returns
returns c = piece_is _ _ (number_ready _ _ c.ranges.n.fits refl c.put_unsigned-count.ensures).is c.put_text.ensures
