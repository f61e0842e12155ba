-- `string_line`: each arm is the line of its tag; no other tag below 10 has one.
use mathlib.Core.Path.{refl, sym, ap}
use mathlib.Core.List.{[], ◌∷◌}
use native.Mathlib.Omega.{arith}
use Rattle.rules.specs.Format.{allowed, size, head_size, forms, form_in, form_of}
use Rattle.format.specs.Numbers.{byte_number, name_number, rest_number, head_number, kinds, kind_from, bits, kinds_number, line_number}
use Rattle.format.proofs.Listed.{no_line}
use Rattle.format.proofs.lines.string_line.Goals as goal

pub returns-in-1 : goal.returns-in-1
unfolding line_number head_number head_size size form_of form_in forms rest_number byte_number name_number kinds_number bits kind_from kinds allowed
returns-in-1 c = sym (ap line_number c.in-1.is)

pub returns-in-2 : goal.returns-in-2
unfolding line_number head_number head_size size form_of form_in forms rest_number byte_number name_number kinds_number bits kind_from kinds allowed
returns-in-2 c = sym (ap line_number c.in-2.is)

pub returns-in_default : goal.returns-in_default
unfolding line_number head_number head_size size form_of form_in forms rest_number byte_number name_number kinds_number bits kind_from kinds allowed
returns-in_default c = no_line (0x02 ∷ 0x01 ∷ []) 16 0 refl _ (omega arith) c.requires ((tt, λ e. absurd (omega arith)), λ e. absurd (omega arith))
