-- The operators in two steps: what the left value alone says, and what both give. The definition's `operate` is the two together (proofs/Operators.antt).
use Rattle.std.specs.Prelude.{ℕ, Bool, true, false, not, ℤ, Result as CodeResult, Ok, Err}
use Rattle.std.specs.Bool.{beq}
use Rattle.values.specs.declared.Value.{Value}
use Rattle.values.specs.declared.Value.TheVariants.{Integer, String, Boolean}
use Rattle.values.specs.declared.Labelled.{Labelled}
use Rattle.values.specs.declared.Reason.TheVariants.{WrongKind as NotThatKind, Overflow, DivisionByZero}
use Rattle.wire.specs.Bytes.{pick}
use Rattle.rules.specs.Outcome.{Outcome, refused, ◌>>=◌, Result, fails, gives, at, plain}
use Rattle.rules.specs.Arithmetic.{integer_in, boolean_in, sum, difference, quotient, is_greater, same_value}
use Rattle.rules.specs.Tree.{Operator, plus, minus, divide, greater, equal, and, or}
use Rattle.evaluator.specs.declared.Begun.{Begun}
use Rattle.evaluator.specs.declared.Begun.TheVariants.{WrongKind, Decided, Open}
use Rattle.values.specs.declared.ArithmeticError.{ArithmeticError}
use Rattle.values.specs.declared.ArithmeticError.TheVariants.{DivisionByZero, Overflow}

-- ---- The left value

unfoldable pub begin_integer : Value → Begun
begin_integer (Integer z) = Open
begin_integer (String n) = WrongKind
begin_integer (Boolean b) = WrongKind

unfoldable pub begin_boolean : (decides : Bool) → Value → Begun
begin_boolean decides (Integer z) = WrongKind
begin_boolean decides (String n) = WrongKind
begin_boolean decides (Boolean b) = pick (beq b decides) Decided Open

unfoldable pub begin : Operator → Value → Begun
begin plus x = begin_integer x
begin minus x = begin_integer x
begin divide x = begin_integer x
begin greater x = begin_integer x
begin equal x = Open
begin and x = begin_boolean false x
begin or x = begin_boolean true x

-- what follows: l is the place of the left value x, and `rest` what the right operand would give
unfoldable pub after_left : Begun → (l : ℕ) → Value → (rest : Outcome Labelled) → Outcome Labelled
after_left WrongKind l x rest = refused NotThatKind l
after_left Decided l x rest = plain x
after_left Open l x rest = rest

-- ---- Both values: p is the operator's place, r that of the right operand

unfoldable pub arithmetic : Operator → ℤ → ℤ → Result Value
arithmetic plus i j = sum i j
arithmetic minus i j = difference i j
arithmetic divide i j = quotient i j
arithmetic greater i j = is_greater i j
arithmetic equal i j = is_greater i j
arithmetic and i j = is_greater i j
arithmetic or i j = is_greater i j

unfoldable pub both_integers : Operator → (p r : ℕ) → (x y : Value) → Outcome Labelled
both_integers o p r x y = at r (integer_in x) >>= λ i. at r (integer_in y) >>= λ j. at p (arithmetic o i j) >>= λ v. plain v

unfoldable pub right_boolean : (r : ℕ) → (y : Value) → Outcome Labelled
right_boolean r y = at r (boolean_in y) >>= λ j. plain (Boolean j)

unfoldable pub combine : Operator → (p r : ℕ) → (x y : Value) → Outcome Labelled
combine plus p r x y = both_integers plus p r x y
combine minus p r x y = both_integers minus p r x y
combine divide p r x y = both_integers divide p r x y
combine greater p r x y = both_integers greater p r x y
combine equal p r x y = plain (Boolean (same_value x y))
combine and p r x y = right_boolean r y
combine or p r x y = right_boolean r y

-- what an operation on integers gave
unfoldable pub result_of : CodeResult ℤ ArithmeticError → Result Value
result_of (Ok z) = gives (Integer z)
result_of (Err Overflow) = fails Overflow
result_of (Err DivisionByZero) = fails DivisionByZero

unfoldable pub computed_at : (p : ℕ) → CodeResult ℤ ArithmeticError → Outcome Labelled
computed_at p c = at p (result_of c) >>= λ v. plain v

-- ---- not, of an operand at l

unfoldable pub negation : (l : ℕ) → Value → Outcome Labelled
negation l x = at l (boolean_in x) >>= λ b. plain (Boolean (not b))
