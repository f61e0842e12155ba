-- `obtain`: the key was there, or a slot was claimed or refused.
use mathlib.Core.Path.{refl, sym, ◌∙◌}
use Rattle.cells.specs.Slots.{holds, lacks}
use Rattle.cells.proofs.obtain.Goals as goal

pub returns-in-Some : goal.returns-in-Some
returns-in-Some c = (holds (sym c.find.ensures ∙ c.in-Some.is), refl)

pub returns : goal.returns
returns c =
    let claim-open = c.claim_open.ensures in
    (lacks (sym c.find.ensures ∙ c.in_default.is) claim-open.0, claim-open.1)
