-- `line_of`: each arm is the line of its tag; no other tag has one.
use mathlib.Core.Path.{refl, sym, ap}
use mathlib.Core.List.{[], ◌∷◌}
use native.Mathlib.Omega.{arith}
use borrow.Author.Rules.{rules}
use Rattle.rules.specs.Format.{allowed, size, head_size, forms, form_in, form_of}
use Rattle.format.specs.Numbers.{byte_number, name_number, rest_number, head_number, kinds, kind_from, bits, kinds_number, line_number}
use Rattle.format.proofs.Listed.{no_line}
use Rattle.format.proofs.lines.line_of.Goals as goal

pub returns-in-16 : goal.returns-in-16
unfolding line_number head_number head_size size form_of form_in forms rest_number byte_number name_number kinds_number bits kind_from kinds allowed
returns-in-16 c = sym (ap line_number c.in-16.is)

pub returns-in-17 : goal.returns-in-17
unfolding line_number head_number head_size size form_of form_in forms rest_number byte_number name_number kinds_number bits kind_from kinds allowed
returns-in-17 c = sym (ap line_number c.in-17.is)

pub returns-in-18 : goal.returns-in-18
unfolding line_number head_number head_size size form_of form_in forms rest_number byte_number name_number kinds_number bits kind_from kinds allowed
returns-in-18 c = sym (ap line_number c.in-18.is)

pub returns-in-19 : goal.returns-in-19
unfolding line_number head_number head_size size form_of form_in forms rest_number byte_number name_number kinds_number bits kind_from kinds allowed
returns-in-19 c = sym (ap line_number c.in-19.is)

pub returns-in-20 : goal.returns-in-20
unfolding line_number head_number head_size size form_of form_in forms rest_number byte_number name_number kinds_number bits kind_from kinds allowed
returns-in-20 c = sym (ap line_number c.in-20.is)

pub returns-in-21 : goal.returns-in-21
unfolding line_number head_number head_size size form_of form_in forms rest_number byte_number name_number kinds_number bits kind_from kinds allowed
returns-in-21 c = sym (ap line_number c.in-21.is)

pub returns-in-22 : goal.returns-in-22
unfolding line_number head_number head_size size form_of form_in forms rest_number byte_number name_number kinds_number bits kind_from kinds allowed
returns-in-22 c = sym (ap line_number c.in-22.is)

pub returns-in-23 : goal.returns-in-23
unfolding line_number head_number head_size size form_of form_in forms rest_number byte_number name_number kinds_number bits kind_from kinds allowed
returns-in-23 c = sym (ap line_number c.in-23.is)

pub returns-in-24 : goal.returns-in-24
unfolding line_number head_number head_size size form_of form_in forms rest_number byte_number name_number kinds_number bits kind_from kinds allowed
returns-in-24 c = sym (ap line_number c.in-24.is)

pub returns-in-25 : goal.returns-in-25
unfolding line_number head_number head_size size form_of form_in forms rest_number byte_number name_number kinds_number bits kind_from kinds allowed
returns-in-25 c = sym (ap line_number c.in-25.is)

pub returns-in-26 : goal.returns-in-26
unfolding line_number head_number head_size size form_of form_in forms rest_number byte_number name_number kinds_number bits kind_from kinds allowed
returns-in-26 c = sym (ap line_number c.in-26.is)

pub returns-in-27 : goal.returns-in-27
unfolding line_number head_number head_size size form_of form_in forms rest_number byte_number name_number kinds_number bits kind_from kinds allowed
returns-in-27 c = sym (ap line_number c.in-27.is)

pub returns-in-32 : goal.returns-in-32
unfolding line_number head_number head_size size form_of form_in forms rest_number byte_number name_number kinds_number bits kind_from kinds allowed
returns-in-32 c = sym (ap line_number c.in-32.is)

pub returns-in-33 : goal.returns-in-33
unfolding line_number head_number head_size size form_of form_in forms rest_number byte_number name_number kinds_number bits kind_from kinds allowed
returns-in-33 c = sym (ap line_number c.in-33.is)

pub returns-in-34 : goal.returns-in-34
unfolding line_number head_number head_size size form_of form_in forms rest_number byte_number name_number kinds_number bits kind_from kinds allowed
returns-in-34 c = sym (ap line_number c.in-34.is)

pub returns-in-35 : goal.returns-in-35
unfolding line_number head_number head_size size form_of form_in forms rest_number byte_number name_number kinds_number bits kind_from kinds allowed
returns-in-35 c = sym (ap line_number c.in-35.is)

pub returns-in-36 : goal.returns-in-36
unfolding line_number head_number head_size size form_of form_in forms rest_number byte_number name_number kinds_number bits kind_from kinds allowed
returns-in-36 c = sym (ap line_number c.in-36.is)

pub returns-in-37 : goal.returns-in-37
unfolding line_number head_number head_size size form_of form_in forms rest_number byte_number name_number kinds_number bits kind_from kinds allowed
returns-in-37 c = sym (ap line_number c.in-37.is)

pub returns-in-38 : goal.returns-in-38
unfolding line_number head_number head_size size form_of form_in forms rest_number byte_number name_number kinds_number bits kind_from kinds allowed
returns-in-38 c = sym (ap line_number c.in-38.is)

pub returns-in-39 : goal.returns-in-39
unfolding line_number head_number head_size size form_of form_in forms rest_number byte_number name_number kinds_number bits kind_from kinds allowed
returns-in-39 c = sym (ap line_number c.in-39.is)

pub returns-in-40 : goal.returns-in-40
unfolding line_number head_number head_size size form_of form_in forms rest_number byte_number name_number kinds_number bits kind_from kinds allowed
returns-in-40 c = sym (ap line_number c.in-40.is)

pub returns-in-41 : goal.returns-in-41
unfolding line_number head_number head_size size form_of form_in forms rest_number byte_number name_number kinds_number bits kind_from kinds allowed
returns-in-41 c = sym (ap line_number c.in-41.is)

pub returns-in-48 : goal.returns-in-48
unfolding line_number head_number head_size size form_of form_in forms rest_number byte_number name_number kinds_number bits kind_from kinds allowed
returns-in-48 c = sym (ap line_number c.in-48.is)

pub returns-in-49 : goal.returns-in-49
unfolding line_number head_number head_size size form_of form_in forms rest_number byte_number name_number kinds_number bits kind_from kinds allowed
returns-in-49 c = sym (ap line_number c.in-49.is)

pub returns-in-50 : goal.returns-in-50
unfolding line_number head_number head_size size form_of form_in forms rest_number byte_number name_number kinds_number bits kind_from kinds allowed
returns-in-50 c = sym (ap line_number c.in-50.is)

pub returns-in-51 : goal.returns-in-51
unfolding line_number head_number head_size size form_of form_in forms rest_number byte_number name_number kinds_number bits kind_from kinds allowed
returns-in-51 c = sym (ap line_number c.in-51.is)

pub returns-in-52 : goal.returns-in-52
unfolding line_number head_number head_size size form_of form_in forms rest_number byte_number name_number kinds_number bits kind_from kinds allowed
returns-in-52 c = sym (ap line_number c.in-52.is)

pub returns-in-53 : goal.returns-in-53
unfolding line_number head_number head_size size form_of form_in forms rest_number byte_number name_number kinds_number bits kind_from kinds allowed
returns-in-53 c = sym (ap line_number c.in-53.is)

pub returns-in_default : goal.returns-in_default
unfolding line_number head_number head_size size form_of form_in forms rest_number byte_number name_number kinds_number bits kind_from kinds allowed
returns-in_default c = no_line (0x35 ∷ 0x34 ∷ 0x33 ∷ 0x32 ∷ 0x31 ∷ 0x30 ∷ 0x29 ∷ 0x28 ∷ 0x27 ∷ 0x26 ∷ 0x25 ∷ 0x24 ∷ 0x23 ∷ 0x22 ∷ 0x21 ∷ 0x20 ∷ 0x1b ∷ 0x1a ∷ 0x19 ∷ 0x18 ∷ 0x17 ∷ 0x16 ∷ 0x15 ∷ 0x14 ∷ 0x13 ∷ 0x12 ∷ 0x11 ∷ 0x10 ∷ []) 240 0x10 refl _ c.if-tag-lt16.false (omega arith) (search rules)
