-- `place_chosen`: the text is too long, is refused, or is read with the log.
use mathlib.Core.Path.{refl}
use native.Mathlib.Omega.{arith}
use Rattle.text_places.proofs.Telling.{nothing_read, whole_told, refused_told, same_room}
use borrow.Author.Rules.{rules}
use Rattle.text_places.proofs.places.place_chosen.Goals as goal

pub note_text-requires : goal.note_text-requires
note_text-requires c = (c.index_types-listed.ensures, nothing_read _ _ _ _ (omega arith) refl refl refl)

pub place_in-requires : goal.place_in-requires
place_in-requires c = (search rules, search rules, record { types = _; whole = whole_told _ _ _ c.in-Some.is c.note_text.ensures })

pub returns-in-Some : goal.returns-in-Some
returns-in-Some c = same_room _ _ _ (search rules) (c.place_in.ensures _ (whole_told _ _ _ c.in-Some.is c.note_text.ensures))

pub returns-in-None : goal.returns-in-None
returns-in-None c = refused_told _ _ _ _ c.in-None.is c.note_text.ensures
