-- `put_integer`: the digits are made in a buffer of their own, which is long enough.
use mathlib.Core.Path.{refl}
use mir.ValLaws.{to_z-of_z}
use mir.Syntax.{w64}
use Rattle.schedule.proofs.Appending.{integer_ready, piece_is}
use Rattle.schedule.proofs.pieces.put_integer.Goals as goal

pub slice_bounds-digits-end : goal.slice_bounds-digits-end
slice_bounds-digits-end c = (integer_ready _ _ c.ranges.z (to_z-of_z w64 _ c.ranges.z) refl c.put_signed-count.ensures).within

pub slice_bounds-put_text-end : goal.slice_bounds-put_text-end
slice_bounds-put_text-end c = (integer_ready _ _ c.ranges.z (to_z-of_z w64 _ c.ranges.z) refl c.put_signed-count.ensures).whole

pub returns : goal.returns
returns c = piece_is _ _ (integer_ready _ _ c.ranges.z (to_z-of_z w64 _ c.ranges.z) refl c.put_signed-count.ensures).is c.put_text.ensures
