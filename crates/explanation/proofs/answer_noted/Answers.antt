-- `answer_noted`: by the note.
use mathlib.Core.Path.{refl}
use Rattle.explanation.proofs.Whole.{answers_none, answers_not, answers_part}
use Rattle.explanation.proofs.answer_noted.Goals as goal

pub returns-then-note : goal.returns-then-note
returns-then-note c = answers_none _ _ _ _ _ c.word-note.ensures c.if-note.true c.at.ensures refl

pub returns-then-note-2 : goal.returns-then-note-2
returns-then-note-2 c = answers_not _ _ _ _ _ c.word-note.ensures c.if-note-2.true

pub returns : goal.returns
returns c = answers_part _ _ _ _ _ c.word-note.ensures c.if-note.false c.if-note-2.false c.part_of-part.ensures c.lowest_place-place.ensures
