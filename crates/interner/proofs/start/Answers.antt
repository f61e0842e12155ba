-- `start`: a string in quotes, or a word.
use mathlib.Core.Path.{refl, sym, ◌∙◌}
use Rattle.interner.proofs.Reading.{quote_no_letter, begins_past, begins_word, begins_quoted}
use Rattle.interner.proofs.start.Goals as goal

pub returns-then-text-p : goal.returns-then-text-p
returns-then-text-p c = (begins_past _ _ c.if-text-p.true, refl)

pub returns-then-is_quote : goal.returns-then-is_quote
returns-then-is_quote c = let quote = sym c.if-is_quote.true ∙ c.is_quote.ensures in (begins_quoted _ _ quote, quote_no_letter _ quote)

pub returns : goal.returns
returns c = (begins_word _ _ (sym c.if-is_quote.false ∙ c.is_quote.ensures), refl)
