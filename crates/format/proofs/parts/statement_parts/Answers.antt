-- `statement_parts`: each arm has the parts of its tag; no other tag of the range has any.
use mathlib.Core.Path.{refl, sym, ap}
use mathlib.Core.List.{[], ◌∷◌}
use native.Mathlib.Omega.{arith}
use borrow.Author.Rules.{rules}
use Rattle.rules.specs.Format.{forms, form_in, form_of}
use Rattle.format.specs.Numbers.{kinds, kind_from, how_many, shaped, part_from, push, undone, lowest, parts_from, parts_in}
use Rattle.format.proofs.Listed.{parts, no_parts_lem}
use Rattle.format.proofs.parts.statement_parts.Goals as goal

pub returns-in-32 : goal.returns-in-32
unfolding parts_from lowest part_from how_many shaped kind_from kinds push undone parts_in form_of form_in forms
returns-in-32 c = sym (ap parts c.in-32.is)

pub returns-in-33 : goal.returns-in-33
unfolding parts_from lowest part_from how_many shaped kind_from kinds push undone parts_in form_of form_in forms
returns-in-33 c = sym (ap parts c.in-33.is)

pub returns-in-34 : goal.returns-in-34
unfolding parts_from lowest part_from how_many shaped kind_from kinds push undone parts_in form_of form_in forms
returns-in-34 c = sym (ap parts c.in-34.is)

pub returns-in-35 : goal.returns-in-35
unfolding parts_from lowest part_from how_many shaped kind_from kinds push undone parts_in form_of form_in forms
returns-in-35 c = sym (ap parts c.in-35.is)

pub returns-in-36 : goal.returns-in-36
unfolding parts_from lowest part_from how_many shaped kind_from kinds push undone parts_in form_of form_in forms
returns-in-36 c = sym (ap parts c.in-36.is)

pub returns-in-37 : goal.returns-in-37
unfolding parts_from lowest part_from how_many shaped kind_from kinds push undone parts_in form_of form_in forms
returns-in-37 c = sym (ap parts c.in-37.is)

pub returns-in-38 : goal.returns-in-38
unfolding parts_from lowest part_from how_many shaped kind_from kinds push undone parts_in form_of form_in forms
returns-in-38 c = sym (ap parts c.in-38.is)

pub returns-in-39 : goal.returns-in-39
unfolding parts_from lowest part_from how_many shaped kind_from kinds push undone parts_in form_of form_in forms
returns-in-39 c = sym (ap parts c.in-39.is)

pub returns-in-40 : goal.returns-in-40
unfolding parts_from lowest part_from how_many shaped kind_from kinds push undone parts_in form_of form_in forms
returns-in-40 c = sym (ap parts c.in-40.is)

pub returns-in_default : goal.returns-in_default
unfolding parts_from lowest part_from how_many shaped kind_from kinds push undone parts_in form_of form_in forms
returns-in_default c = no_parts_lem (0x28 ∷ 0x27 ∷ 0x26 ∷ 0x25 ∷ 0x24 ∷ 0x23 ∷ 0x22 ∷ 0x21 ∷ 0x20 ∷ []) 10 0x20 refl _ c.requires.0 (omega arith) (search rules)
