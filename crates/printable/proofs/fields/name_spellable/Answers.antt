-- `name_spellable`: a name, or no name.
use native.Mathlib.Omega.{arith}
use Rattle.printable.proofs.OneField.{a_name_there, no_name_there}
use Rattle.printable.proofs.fields.name_spellable.Goals as goal

pub returns-in-1 : goal.returns-in-1
returns-in-1 c = a_name_there _ _ _ c.in-1.is c.two_at.ensures c.string_at.ensures c.is_name.ensures

pub returns-in_default : goal.returns-in_default
returns-in_default c = no_name_there _ _ _ (λ e. absurd (omega arith))
