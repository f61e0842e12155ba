-- What the operations on integers answer.
use Rattle.std.specs.Prelude.{Bool, true, false, ℤ, Result, Ok, Err}
use Rattle.values.specs.Integers.{fits64}
use Rattle.values.specs.declared.ArithmeticError.{ArithmeticError}
use Rattle.values.specs.declared.ArithmeticError.TheVariants.{DivisionByZero, Overflow}

-- the answer of an operation whose result is z: the integer, if it is one of 64 bits; `by_zero` is whether the operation divides by zero
unfoldable pub computed : (by_zero : Bool) → ℤ → Result ℤ ArithmeticError
computed true z = Err DivisionByZero
computed false z = elim (fits64 z) [ true ↦ Ok z | false ↦ Err Overflow ]
