-- `next_in_word`: the word ends with the text, at another byte, or goes on.
use mathlib.Core.Path.{sym, ◌∙◌}
use Rattle.interner.proofs.Reading.{word_past, word_over, word_goes_on}
use Rattle.interner.proofs.next_in_word.Goals as goal

pub returns-then-text-at : goal.returns-then-text-at
returns-then-text-at c = word_past _ _ c.if-text-at.true

pub returns-then-in_word : goal.returns-then-in_word
returns-then-in_word c = word_goes_on _ _ c.if-text-at.false (sym c.if-in_word.true ∙ c.in_word.ensures) c.letter.ensures.0 c.letter.ensures.2 c.letter.ensures.1

pub returns : goal.returns
returns c = word_over _ _ c.if-text-at.false (sym c.if-in_word.false ∙ c.in_word.ensures)
