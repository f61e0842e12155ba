-- `claim_open`: a freed slot of the key, a free one, or none.
use mathlib.Core.Path.{refl, ◌∙◌}
use Rattle.cells.specs.Slots.{claims}
use Rattle.cells.proofs.Cells.{claim_freed, open_at, all_used}
use Rattle.cells.proofs.Slots.{hint_way}
use Rattle.cells.proofs.Ways.{in_slots}
use Rattle.cells.proofs.claim_open.Goals as goal

pub renew-requires : goal.renew-requires
renew-requires c = (in_slots _ _ _ _ _ c.find.ensures c.in-Some.is, c.requires)

pub returns-in-Some : goal.returns-in-Some
returns-in-Some c =
    let renew = c.renew.ensures in
    (claim_freed _ _ _ _ c.find.ensures c.in-Some.is renew.0, renew.1)

pub returns-in_err-j : goal.returns-in_err-j
returns-in_err-j c =
    rw c.from_residual.ensures (all_used _ _ _ c.find_open.ensures c.in_err-j.was, refl)

pub returns : goal.returns
returns c =
    let hint = hint_way _ _ c.put_two.ensures in
    let claim = c.claim.ensures in
    (claims (open_at _ _ c.find_open.ensures c.in_ok-j.was) (hint.0 ∙ claim.0), hint.1 ∙ claim.1)
