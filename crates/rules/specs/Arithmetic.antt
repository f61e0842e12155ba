-- Operators on values: "Integers are signed 64-bit; division rounds toward minus infinity."
use Rattle.std.specs.Prelude.{ℕ, Bool, true, false, ℤ, ◌+ℤ◌, ◌-ℤ◌}
use Rattle.std.specs.Int.Signed.{lt_z}
use Rattle.values.specs.declared.Value.{Value}
use Rattle.values.specs.declared.Value.TheVariants.{Integer, String, Boolean}
use Rattle.values.specs.declared.Reason.TheVariants.{WrongKind, Overflow, DivisionByZero}
unfoldable pub use Rattle.values.specs.Integers.{fits64, is_zero, floor_divide, same_integer, same_value}
use Rattle.rules.specs.Outcome.{Result, fails, gives}

-- ---- Kinds: "Operators + − / > take integers; "and", "or", "not" and if take booleans .. Titles are strings."

unfoldable pub integer_in : Value → Result ℤ
integer_in (Integer z) = gives z
integer_in (String n) = fails WrongKind
integer_in (Boolean b) = fails WrongKind

unfoldable pub string_in : Value → Result ℕ
string_in (Integer z) = fails WrongKind
string_in (String n) = gives n
string_in (Boolean b) = fails WrongKind

unfoldable pub boolean_in : Value → Result Bool
boolean_in (Integer z) = fails WrongKind
boolean_in (String n) = fails WrongKind
boolean_in (Boolean b) = gives b

-- ---- Integers

-- "The result is outside 64 bits" (16)
unfoldable pub in_range : ℤ → Result Value
in_range z = elim (fits64 z) [ true ↦ gives (Integer z) | false ↦ fails Overflow ]

unfoldable pub sum : ℤ → ℤ → Result Value
sum i j = in_range (i +ℤ j)

unfoldable pub difference : ℤ → ℤ → Result Value
difference i j = in_range (i -ℤ j)

-- "The divisor is zero" (17)
unfoldable pub quotient : ℤ → ℤ → Result Value
quotient i j = elim (is_zero j) [ true ↦ fails DivisionByZero | false ↦ in_range (floor_divide i j) ]

unfoldable pub is_greater : ℤ → ℤ → Result Value
is_greater i j = gives (Boolean (lt_z j i))
