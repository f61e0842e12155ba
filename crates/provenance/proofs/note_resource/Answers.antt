-- `note_resource`: nothing or another type is asked about, or what is noted of the resource is stored.
use mathlib.Core.Path.{refl}
use native.Mathlib.Omega.{arith}
use Rattle.provenance.proofs.Notes.{type_other, note_kept, note_made}
use Rattle.provenance.proofs.note_resource.Goals as goal

pub returns-then-asked-eq0 : goal.returns-then-asked-eq0
returns-then-asked-eq0 c = type_other _ _ _ _ _ _ _ c.word-asked.ensures refl (λ e. omega (arith, c.if-asked-eq0.true))

pub returns-then-asked-kind : goal.returns-then-asked-kind
returns-then-asked-kind c = type_other _ _ _ _ _ _ _ c.word-asked.ensures c.two_at-kind.ensures c.if-asked-kind.true

pub returns-in_default : goal.returns-in_default
returns-in_default c = note_kept _ _ _ _ _ _ _ c.word-asked.ensures c.two_at-kind.ensures c.if-asked-kind.false c.resource_note.ensures c.in_default.is

pub returns-in-Some : goal.returns-in-Some
returns-in-Some c = note_made _ _ _ _ _ _ _ c.word-asked.ensures c.two_at-kind.ensures c.if-asked-kind.false c.resource_note.ensures c.in-Some.is refl c.set_word.ensures
