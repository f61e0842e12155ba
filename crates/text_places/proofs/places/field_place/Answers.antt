-- `field_place`: types at fault, or the place.
use mathlib.Core.Path.{sym, ◌∙◌}
use native.Mathlib.Omega.{arith}
use Rattle.rules.proofs.Within.{false_not_true}
use Rattle.text_places.proofs.places.field_place.Goals as goal

pub returns-then-not-is_sound : goal.returns-then-not-is_sound
returns-then-not-is_sound c = record { low = omega arith; right = λ e. false_not_true (sym c.if-not-is_sound.true ∙ c.is_sound.ensures.1 e) }

pub place_chosen-requires : goal.place_chosen-requires
place_chosen-requires c = c.is_sound.ensures.0 c.if-not-is_sound.false

pub returns : goal.returns
returns c = let p = c.place_chosen.ensures in record { low = p.low; right = λ e. p }
