-- What a value's type says of it in code. Assumes nothing.
use Prim.Native.Nat.{◌<◌}
use mathlib.Core.Path.{◌≡◌}
use mathlib.Core.Bool.{true}
use mathlib.Core.List.{List}
use borrow.Author.Tests.{lt-ltb}
use denote.Enum.Declared.{row}
use denote.Laws.{Is}
use lib.IntN.{ℤ, pos, negsuc}
use lib.Signed.{mag}
use mir.Val.{Val}
use Rattle.values.specs.contracts.Value.{the_type}
use Rattle.values.specs.Integers.{fits64}
use Rattle.values.specs.declared.Value.{Value}
use Rattle.values.specs.declared.Value.TheVariants.{Integer, String, Boolean}
use Rattle.rules.proofs.ReadBack.{FitsValue, fits_integer, fits_string, fits_boolean}

integer_fits : (z : ℤ) → mag z < 9223372036854775808 → fits64 z ≡ true
unfolding fits64
integer_fits (pos n) h = lt-ltb n 9223372036854775808 h
integer_fits (negsuc n) h = lt-ltb n 9223372036854775808 h

pub value_fits : (v : Value) (vs : List Val) → Is (row the_type) v vs → FitsValue v
value_fits (Integer z) vs p = fits_integer (integer_fits z p.1.1.1.1.0.1)
value_fits (String n) vs p = fits_string p.1.1.1.1.0.1
value_fits (Boolean b) vs p = fits_boolean
