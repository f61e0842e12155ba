-- `next_in_quotes`: the string ends with the text or at its quote, or goes on with a byte or an escape.
use Rattle.interner.proofs.Reading.{text_past, closed, text_goes_on, cut_off, escaped}
use Rattle.interner.proofs.next_in_quotes.Goals as goal

pub returns-then-text-at : goal.returns-then-text-at
returns-then-text-at c = text_past _ _ _ c.requires c.if-text-at.true

pub returns-then-c-quote : goal.returns-then-c-quote
returns-then-c-quote c = closed _ _ _ c.requires c.if-text-at.false c.if-c-quote.true

pub returns-then-c-ne92 : goal.returns-then-c-ne92
returns-then-c-ne92 c = text_goes_on _ _ _ c.requires c.if-text-at.false c.if-c-quote.false c.if-c-ne92.true c.letter.ensures.0 c.letter.ensures.2 c.letter.ensures.1

pub returns-then-text-q : goal.returns-then-text-q
returns-then-text-q c = cut_off _ _ _ c.requires c.if-text-at.false c.if-c-quote.false c.if-c-ne92.false c.if-text-q.true

pub returns : goal.returns
returns c = escaped _ _ _ c.requires c.if-text-at.false c.if-c-quote.false c.if-c-ne92.false c.if-text-q.false c.escape_of.ensures c.letter-2.ensures.0 c.letter-2.ensures.2 c.letter-2.ensures.1
