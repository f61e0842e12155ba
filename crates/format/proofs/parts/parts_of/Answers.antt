-- `parts_of`: each range by its function; elsewhere there are none.
use mathlib.Core.Path.{refl, sym, ap}
use mathlib.Core.List.{[], ◌∷◌}
use native.Mathlib.Omega.{arith}
use Rattle.rules.specs.Format.{forms, form_in, form_of}
use Rattle.format.specs.Numbers.{kinds, kind_from, how_many, shaped, part_from, push, undone, lowest, parts_from, parts_in}
use Rattle.format.proofs.Listed.{parts, no_parts_lem}
use Rattle.format.proofs.parts.parts_of.Goals as goal

pub returns-in-1 : goal.returns-in-1
unfolding parts_from lowest part_from how_many shaped kind_from kinds push undone parts_in form_of form_in forms
returns-in-1 c = sym (ap parts c.in-1.is)

pub returns-in-16-to-18 : goal.returns-in-16-to-18
unfolding parts_from lowest part_from how_many shaped kind_from kinds push undone parts_in form_of form_in forms
returns-in-16-to-18 c = no_parts_lem [] 3 0x10 refl c.args.tag (omega arith) (omega arith) tt

pub returns-in_default : goal.returns-in_default
unfolding parts_from lowest part_from how_many shaped kind_from kinds push undone parts_in form_of form_in forms
returns-in_default c = no_parts_lem (1 ∷ []) 0x10 0 refl c.args.tag (omega arith) (omega arith) (tt, λ e. absurd (omega arith))

pub returns-in_default-2 : goal.returns-in_default-2
unfolding parts_from lowest part_from how_many shaped kind_from kinds push undone parts_in form_of form_in forms
returns-in_default-2 c = no_parts_lem [] 4 0x1c refl c.args.tag (omega arith) (omega arith) tt

pub returns-in_default-3 : goal.returns-in_default-3
unfolding parts_from lowest part_from how_many shaped kind_from kinds push undone parts_in form_of form_in forms
returns-in_default-3 c = no_parts_lem [] 6 0x2a refl c.args.tag (omega arith) (omega arith) tt

pub returns-in_default-4 : goal.returns-in_default-4
unfolding parts_from lowest part_from how_many shaped kind_from kinds push undone parts_in form_of form_in forms
returns-in_default-4 c = no_parts_lem [] 202 0x36 refl c.args.tag (omega arith) (omega arith) tt
