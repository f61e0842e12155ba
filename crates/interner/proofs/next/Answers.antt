-- `next`: a word or a string in quotes.
use Rattle.interner.proofs.next.Goals as goal

pub returns-then-quote-eq0 : goal.returns-then-quote-eq0
returns-then-quote-eq0 c = let zero = c.if-quote-eq0.true in rw zero c.next_in_word.ensures
