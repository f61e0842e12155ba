-- `note`: no byte came, or an entry is put behind the others.
use mathlib.Core.Path.{refl}
use native.Mathlib.Omega.{arith}
use Rattle.text_places.proofs.Logging.{nothing_noted, low_offset, one_noted}
use Rattle.text_places.proofs.log.note.Goals as goal

pub returns-then-behind-before : goal.returns-then-behind-before
returns-then-behind-before c = nothing_noted _ _ _ _ _ _ _ c.requires c.if-behind-before.true

pub overflow_mul-entry : goal.overflow_mul-entry
overflow_mul-entry c = omega (arith, low_offset _ _ _ _ _ _ c.requires _ c.inserted_at-from.ensures)

pub overflow_add-entry-2 : goal.overflow_add-entry-2
overflow_add-entry-2 c =
    let p = c.requires in
    omega (arith, low_offset _ _ _ _ _ _ p _ c.inserted_at-from.ensures, p.ready_behind.fill, p.small)

pub returns : goal.returns
returns c =
    one_noted _ _ _ _ _ _ _ c.requires _ _ c.inserted_at-from.ensures
    (omega (arith, c.if-behind-before.false)) refl c.put_eight.ensures
