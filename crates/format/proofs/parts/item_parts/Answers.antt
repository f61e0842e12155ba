-- `item_parts`: each arm has the parts of its tag; no other tag of the range has any.
use mathlib.Core.Path.{refl, sym, ap}
use mathlib.Core.List.{[], ◌∷◌}
use native.Mathlib.Omega.{arith}
use borrow.Author.Rules.{rules}
use Rattle.rules.specs.Format.{forms, form_in, form_of}
use Rattle.format.specs.Numbers.{kinds, kind_from, how_many, shaped, part_from, push, undone, lowest, parts_from, parts_in}
use Rattle.format.proofs.Listed.{parts, no_parts_lem}
use Rattle.format.proofs.parts.item_parts.Goals as goal

pub returns-in-48 : goal.returns-in-48
unfolding parts_from lowest part_from how_many shaped kind_from kinds push undone parts_in form_of form_in forms
returns-in-48 c = sym (ap parts c.in-48.is)

pub returns-in-50 : goal.returns-in-50
unfolding parts_from lowest part_from how_many shaped kind_from kinds push undone parts_in form_of form_in forms
returns-in-50 c = sym (ap parts c.in-50.is)

pub returns-in-51 : goal.returns-in-51
unfolding parts_from lowest part_from how_many shaped kind_from kinds push undone parts_in form_of form_in forms
returns-in-51 c = sym (ap parts c.in-51.is)

pub returns-in-52 : goal.returns-in-52
unfolding parts_from lowest part_from how_many shaped kind_from kinds push undone parts_in form_of form_in forms
returns-in-52 c = sym (ap parts c.in-52.is)

pub returns-in_default : goal.returns-in_default
unfolding parts_from lowest part_from how_many shaped kind_from kinds push undone parts_in form_of form_in forms
returns-in_default c = no_parts_lem (0x34 ∷ 0x33 ∷ 0x32 ∷ 0x30 ∷ []) 6 0x30 refl _ c.requires.0 (omega arith) (search rules)
