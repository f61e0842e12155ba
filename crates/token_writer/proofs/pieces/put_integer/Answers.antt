-- `put_integer`: the digits are made in a buffer of their own, which is long enough.
use mathlib.Core.Path.{refl}
use native.Mathlib.Omega.{arith}
use mir.Syntax.{w64}
use mir.ValLaws.{to_z-of_z}
use Rattle.token_writer.proofs.Writing.{wrote_is}
use Rattle.token_writer.proofs.Numbers.{digits_ready}
use Rattle.token_writer.proofs.pieces.put_integer.Goals as goal

pub slice_bounds-digits-end : goal.slice_bounds-digits-end
slice_bounds-digits-end c = (digits_ready _ _ c.ranges.value (to_z-of_z w64 _ c.ranges.value) refl c.put_signed-count.ensures).within

pub slice_bounds-put_bytes-end : goal.slice_bounds-put_bytes-end
slice_bounds-put_bytes-end c = (digits_ready _ _ c.ranges.value (to_z-of_z w64 _ c.ranges.value) refl c.put_signed-count.ensures).whole

pub put_bytes-requires : goal.put_bytes-requires
put_bytes-requires c = let d = digits_ready _ _ c.ranges.value (to_z-of_z w64 _ c.ranges.value) refl c.put_signed-count.ensures in omega (arith, d.whole, d.short, c.requires)

pub returns : goal.returns
returns c = wrote_is (digits_ready _ _ c.ranges.value (to_z-of_z w64 _ c.ranges.value) refl c.put_signed-count.ensures).is c.put_bytes.ensures
