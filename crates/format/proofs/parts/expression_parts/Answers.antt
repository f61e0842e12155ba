-- `expression_parts`: each arm has the parts of its tag; no other tag of the range has any.
use mathlib.Core.Path.{refl, sym, ap}
use mathlib.Core.List.{[], ◌∷◌}
use native.Mathlib.Omega.{arith}
use borrow.Author.Rules.{rules}
use Rattle.rules.specs.Format.{forms, form_in, form_of}
use Rattle.format.specs.Numbers.{kinds, kind_from, how_many, shaped, part_from, push, undone, lowest, parts_from, parts_in}
use Rattle.format.proofs.Listed.{parts, no_parts_lem}
use Rattle.format.proofs.parts.expression_parts.Goals as goal

pub returns-in-22 : goal.returns-in-22
unfolding parts_from lowest part_from how_many shaped kind_from kinds push undone parts_in form_of form_in forms
returns-in-22 c = sym (ap parts c.in-22.is)

pub returns-in-23 : goal.returns-in-23
unfolding parts_from lowest part_from how_many shaped kind_from kinds push undone parts_in form_of form_in forms
returns-in-23 c = sym (ap parts c.in-23.is)

pub returns-in-24 : goal.returns-in-24
unfolding parts_from lowest part_from how_many shaped kind_from kinds push undone parts_in form_of form_in forms
returns-in-24 c = sym (ap parts c.in-24.is)

pub returns-in-25 : goal.returns-in-25
unfolding parts_from lowest part_from how_many shaped kind_from kinds push undone parts_in form_of form_in forms
returns-in-25 c = sym (ap parts c.in-25.is)

pub returns-in-26 : goal.returns-in-26
unfolding parts_from lowest part_from how_many shaped kind_from kinds push undone parts_in form_of form_in forms
returns-in-26 c = sym (ap parts c.in-26.is)

pub returns-in_default : goal.returns-in_default
unfolding parts_from lowest part_from how_many shaped kind_from kinds push undone parts_in form_of form_in forms
returns-in_default c = no_parts_lem (0x1a ∷ 0x19 ∷ 0x18 ∷ 0x17 ∷ 0x16 ∷ []) 9 0x13 refl _ c.requires.0 (omega arith) (search rules)
